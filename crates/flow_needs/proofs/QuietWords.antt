-- The words of the needs of expressions and actions that leave parts and what is known of variables.
use Rattle.std.proofs.Common.{◌∷◌, ℕ, Bool, true, false, List, [], Option, None, Some, Result, Ok, Err, refl}
use Rattle.std.specs.List.{list_any}
use Rattle.bal_base.specs.declared.fault.Fault.{Fault}
use Rattle.bal_base.specs.declared.place.Place.{Place}
use Rattle.bal_base.specs.declared.shape.Shape.{Shape}
use Rattle.bal_base.specs.declared.text.Text.{Text}
use Rattle.bal_tree.specs.declared.action.Peer.{Peer}
use Rattle.bal_tree.specs.declared.name.QualifiedName.{QualifiedName}
use Rattle.descriptors.specs.declared.names.Names.{Names}
use Rattle.descriptors.specs.declared.names.Signature.{Signature}
use Rattle.operations.specs.declared.library.LibraryCall.{LibraryCall}
use Rattle.operations.specs.declared.library.LibraryCall.TheVariants.{Push}
use Rattle.type_model.specs.declared.answers.Keys.{Keys as MemberKeys}
use Rattle.type_model.specs.declared.answers.TypeLimit.{TypeLimit}
use Rattle.type_model.specs.declared.atoms.AtomDef.{AtomDef}
use Rattle.type_model.specs.declared.atoms.FieldDef.{FieldDef}
use Rattle.type_model.specs.declared.basic.Choice.{Choice}
use Rattle.type_model.specs.declared.basic.SemType.{SemType}
use Rattle.type_model.specs.declared.basic.Ty.{Ty}
use Rattle.type_model.specs.Calls.{Asked}
use Rattle.typed_tree.specs.declared.expr.TypedExpr.{TypedExpr}
use Rattle.typed_tree.specs.SharedTypes.{Shared}
use Rattle.expr_needs.specs.declared.expected.Expected.{Expected}
use Rattle.expr_needs.specs.declared.expected.Expected.TheVariants as expected
use Rattle.expr_needs.specs.declared.kind.Kind.{Kind}
use Rattle.expr_needs.specs.declared.kind.Kind.TheVariants as kind
use Rattle.check_words.specs.declared.access.Access.{Access}
use Rattle.check_words.specs.declared.access.Access.TheVariants.{Char, Item, Key}
use Rattle.check_words.specs.Actions.{known_result, peer_of, result_of, takes_wants}
use Rattle.check_words.specs.Calls.{applies_to, argument_fits, calls_function, calls_library, expects_by, expects_of_library, expects_pushed, is_receiver, picks, wants_copy, wants_kind}
use Rattle.check_words.specs.Constructors.{added_type, adds_member, atom_of, chooses_by, chooses_constructor, chooses_for, first_fit, fits_field, fits_fields, fits_keys, is_frozen, is_key, may_stand, takes_key}
use Rattle.check_words.specs.Library.{LibraryRow, Takes}
use Rattle.check_words.specs.Members.{field_type, has_part, is_accessed, is_accessed_as, is_structure, member_at, some_member_at}
use Rattle.check_words.specs.Seen.{looks_up}
use Rattle.check_words.specs.State.{CallAtWork, Called, ConstructorAtWork, OfFunction, OfLibrary, OfValue}
use Rattle.check_words.specs.Values.{decided, sorts, takes_sort, wants_beside_error, widened, widens_to}
use Rattle.check_words.specs.Words.{Atoms, below_if, closes_call, is_of, is_within, opens_call, sets_call, whether_some, whether_within}
use Rattle.flow_needs.proofs.Quieting.{Quiet, quiet-asking, quiet-becomes, quiet-beside, quiet-either, quiet-fails, quiet-no-more, quiet-opens-constructor, quiet-refuses, quiet-sets-constructor, quiet-some, quiet-then, quiet-unless, quiet-wants, quiet-wants-some, quiet-same}

-- ---- names, literals and operators

pub quiet-looks-up : (names : Names) (q : QualifiedName) → Quiet (looks_up names q)
quiet-looks-up names q = quiet-then _ _ (quiet-some _) (λ u. quiet-some _)

pub quiet-takes-sort : Quiet takes_sort
quiet-takes-sort = quiet-then _ _ (quiet-some _) (λ c. quiet-then _ _ (quiet-becomes _ (λ s. quiet-beside s _ refl refl refl refl)) (λ u. quiet-some _))

pub quiet-sorts : (ints : Bool) → Quiet (sorts ints)
quiet-sorts ints = quiet-becomes _ (λ s. quiet-beside s _ refl refl refl refl)

pub quiet-beside-error : (w : Option Shared) → Quiet (wants_beside_error w)
quiet-beside-error None = quiet-wants None
quiet-beside-error (Some t) = quiet-wants-some _

-- ---- calls

pub quiet-opens-call : (c : CallAtWork) → Quiet (opens_call c)
quiet-opens-call c = quiet-becomes _ (λ s. quiet-beside s _ refl refl refl refl)

pub quiet-sets-call : (c : CallAtWork) → Quiet (sets_call c)
quiet-sets-call c = quiet-becomes _ (λ s. quiet-beside s _ refl refl refl refl)

pub quiet-closes-call : Quiet closes_call
quiet-closes-call = quiet-then _ _ (quiet-some _) (λ c. quiet-then _ _ (quiet-becomes _ (λ s. quiet-beside s _ refl refl refl refl)) (λ u. quiet-some _))

pub quiet-function : (f : Signature) (count : ℕ) (at : Place) → Quiet (calls_function f count at)
quiet-function f count at = quiet-then _ _ (quiet-unless _ _ at) (λ u. quiet-opens-call _)

pub quiet-library : (row : LibraryRow) (receiver : Option Shared) (count : ℕ) (at : Place) → Quiet (calls_library row receiver count at)
quiet-library row receiver count at = quiet-then _ _ (quiet-unless _ _ at) (λ u. quiet-opens-call _)

pub quiet-wants-copy : (ts : List Ty) → Quiet (wants_copy ts)
quiet-wants-copy [] = quiet-some _
quiet-wants-copy (t ∷ ts) = quiet-wants-some _

pub quiet-wants-kind : (takes : Takes) → Quiet (wants_kind takes)
quiet-wants-kind None = quiet-wants None
quiet-wants-kind (Some k) = quiet-wants-some _

-- ---- actions

pub quiet-known : (r : Option (Result Shared Fault)) → Quiet (known_result r)
quiet-known (Some (Ok t)) = quiet-some _
quiet-known (Some (Err fault)) = quiet-refuses _
quiet-known None = quiet-some _

pub quiet-result : (w : ℕ) → Quiet (result_of w)
quiet-result w = quiet-then _ _ (quiet-some _) (λ site. quiet-known _)

pub quiet-peer : (p : Peer) → Quiet (peer_of p)
quiet-peer p = quiet-then _ _ (quiet-some _) (λ site. quiet-then _ _ (quiet-some _) (λ u. quiet-some _))

pub quiet-takes-wants : (count : ℕ) → Quiet (takes_wants count)
quiet-takes-wants count = quiet-then _ _ (quiet-some _) (λ ws. quiet-then _ _ (quiet-some _) (λ ts. quiet-then _ _ (quiet-no-more count) (λ u. quiet-some _)))

-- ---- constructors

pub quiet-takes-key : (text : Text) (at : Place) → Quiet (takes_key text at)
quiet-takes-key text at = quiet-then _ _ (quiet-some _) (λ c. quiet-either (list_any (is_key text) c.keys) _ _ (quiet-fails _ at) (quiet-sets-constructor _))

pub quiet-atom-of : (choice : Option ℕ) (P : Atoms → List AtomDef → Type 0) (at : Place) → Quiet (atom_of choice P at)
quiet-atom-of (Some atom) P at = quiet-some _
quiet-atom-of None P at = quiet-asking _

module _ (passes : List AtomDef → Asked → TypeLimit → Type 0) where
  -- ---- questions

  pub quiet-within : (P : Atoms → Ty → Type 0) (s : SemType) (at : Place) → Quiet (is_within passes P s at)
  quiet-within P s at = quiet-then _ _ (quiet-some _) (λ t. quiet-asking _)

  pub quiet-whether : (P : Atoms → Ty → Type 0) (s : SemType) (at : Place) → Quiet (whether_within passes P s at)
  quiet-whether P s at = quiet-then _ _ (quiet-some _) (λ t. quiet-asking _)

  pub quiet-whether-some : (P : Atoms → Ty → Type 0) (at : Place) → Quiet (whether_some passes P at)
  quiet-whether-some P at = quiet-then _ _ (quiet-some _) (λ t. quiet-asking _)

  pub quiet-is-of : (k : Kind) (at : Place) → Quiet (is_of passes k at)
  quiet-is-of k at = quiet-then _ _ (quiet-some _) (λ e. quiet-within _ _ at)

  pub quiet-below-if : (w : Option Shared) (e : TypedExpr) (at : Place) → Quiet (below_if passes w e at)
  quiet-below-if None e at = quiet-some _
  quiet-below-if (Some t) e at = quiet-asking _

  -- ---- operators and tests

  pub quiet-decided : (ints : Bool) (e : SemType) (at : Place) → Quiet (decided passes ints e at)
  quiet-decided true e at = quiet-some _
  quiet-decided false e at = quiet-within _ e at

  pub quiet-widens-to : (kinds : List Kind) (t : Shared) (at : Place) → Quiet (widens_to passes kinds t at)
  quiet-widens-to [] t at = quiet-some _
  quiet-widens-to (k ∷ kinds) t at = quiet-then _ _ (quiet-whether _ _ at) (λ b. quiet-either b _ _ (quiet-some _) (quiet-widens-to kinds t at))

  pub quiet-widened : (t : Shared) (at : Place) → Quiet (widened passes t at)
  quiet-widened t at = quiet-widens-to (kind.Integer ∷ kind.Text ∷ kind.Truth ∷ []) t at

  -- ---- members

  pub quiet-accessed-as : (a : Access) (at : Place) → Quiet (is_accessed_as passes a at)
  quiet-accessed-as a at = quiet-then _ _ (quiet-is-of _ at) (λ u. quiet-becomes _ (λ s. quiet-beside s _ refl refl refl refl))

  pub quiet-has-part : (P : Shape → Type 0) (at : Place) → Quiet (has_part passes P at)
  quiet-has-part P at = quiet-then _ _ (quiet-some _) (λ e. quiet-whether-some _ at)

  pub quiet-structure : (at : Place) → Quiet (is_structure passes at)
  quiet-structure at = quiet-then _ _ (quiet-has-part _ at) (λ b. quiet-either b _ _ (quiet-accessed-as Item at) (quiet-accessed-as Key at))

  pub quiet-accessed : (texts : Bool) (at : Place) → Quiet (is_accessed passes texts at)
  quiet-accessed true at = quiet-then _ _ (quiet-has-part _ at) (λ b. quiet-either b _ _ (quiet-accessed-as Char at) (quiet-structure at))
  quiet-accessed false at = quiet-structure at

  pub quiet-member-at : (t : SemType) (keys : MemberKeys) (at : Place) → Quiet (member_at passes t keys at)
  quiet-member-at t keys at = quiet-asking _

  pub quiet-some-member : (t : SemType) (keys : MemberKeys) (at : Place) → Quiet (some_member_at passes t keys at)
  quiet-some-member t keys at =
      quiet-then _ _ (quiet-member-at t keys at) (λ m. quiet-then _ _ (quiet-asking _) (λ b. quiet-then _ _ (quiet-unless b _ at) (λ u. quiet-some _)))

  pub quiet-field-type : (name : Text) (t : SemType) (at : Place) → Quiet (field_type passes name t at)
  quiet-field-type name t at =
      quiet-then _ _ (quiet-then _ _ (quiet-asking _) (λ atom. quiet-then _ _ (quiet-asking _) (λ b. quiet-unless b _ at)))
      (λ u. quiet-member-at t _ at)

  -- ---- constructors

  module _ (own : Ty → List Choice) (Fits : Atoms → Choice → Type 0) where
    pub quiet-first-fit : (all : List Choice) (at : Place) → Quiet (first_fit Fits all at)
    unfolding first_fit
    quiet-first-fit all at old new c (x, e) = quiet-same old new e

    pub quiet-chooses-by : (all : List Choice) (t : Ty) (at : Place) → Quiet (chooses_by passes own Fits all t at)
    quiet-chooses-by [] t at = quiet-then _ _ (quiet-whether _ _ at) (λ b. quiet-opens-constructor _)
    quiet-chooses-by (c ∷ cs) t at = quiet-then _ _ (quiet-first-fit _ at) (λ d. quiet-opens-constructor _)

    pub quiet-chooses-for : (w : Option Shared) (at : Place) → Quiet (chooses_for passes own Fits w at)
    quiet-chooses-for None at = quiet-opens-constructor _
    quiet-chooses-for (Some t) at = quiet-chooses-by _ t.value at

    pub quiet-constructor : (e : Expected) (at : Place) → Quiet (chooses_constructor passes own Fits e at)
    quiet-constructor expected.Nothing at = quiet-opens-constructor _
    quiet-constructor expected.Immutable at = quiet-opens-constructor _
    quiet-constructor expected.Wanted at = quiet-then _ _ (quiet-some _) (λ w. quiet-chooses-for w at)

  pub quiet-frozen : (e : TypedExpr) (at : Place) → Quiet (is_frozen passes e at)
  quiet-frozen e at = quiet-then _ _ (quiet-whether _ _ at) (λ b. quiet-unless b _ at)

  pub quiet-fits-field : (key : SemType) (e : TypedExpr) (at : Place) (f : FieldDef) → Quiet (fits_field passes key e at f)
  quiet-fits-field key e at f =
      quiet-then _ _ (quiet-asking _) (λ b.
      quiet-either b _ _ (quiet-then _ _ (quiet-some _) (λ t. quiet-asking _)) (quiet-some _))

  pub quiet-fits-fields : (key : SemType) (e : TypedExpr) (at : Place) (fields : List FieldDef) → Quiet (fits_fields passes key e at fields)
  quiet-fits-fields key e at [] = quiet-some _
  quiet-fits-fields key e at (f ∷ fields) = quiet-then _ _ (quiet-fits-field key e at f) (λ u. quiet-fits-fields key e at fields)

  pub quiet-fits-keys : (choice : Option ℕ) (key : Option Text) (at : Place) → Quiet (fits_keys passes choice key at)
  quiet-fits-keys None key at = quiet-some _
  quiet-fits-keys (Some atom) (Some key) at = quiet-some _
  quiet-fits-keys (Some atom) None at = quiet-then _ _ (quiet-some _) (λ p. quiet-then _ _ (quiet-some _) (λ fields. quiet-fits-fields _ _ at fields))

  pub quiet-may-stand : (c : ConstructorAtWork) (e : TypedExpr) (at : Place) → Quiet (may_stand passes c e at)
  quiet-may-stand c e at = quiet-either c.immutable _ _ (quiet-frozen e at) (quiet-some _)

  pub quiet-added-type : (choice : Option ℕ) (e : TypedExpr) (at : Place) → Quiet (added_type passes choice e at)
  quiet-added-type None e at = quiet-widened _ at
  quiet-added-type (Some atom) e at = quiet-some _

  pub quiet-adds-member : (c : ConstructorAtWork) (e : TypedExpr) (at : Place) → Quiet (adds_member passes c e at)
  quiet-adds-member c e at = quiet-then _ _ (quiet-added-type c.choice e at) (λ t. quiet-then _ _ (quiet-some _) (λ u. quiet-sets-constructor _))

  -- ---- calls

  pub quiet-receiver : (takes : Takes) (e : TypedExpr) (at : Place) → Quiet (is_receiver passes takes e at)
  quiet-receiver None e at = quiet-some _
  quiet-receiver (Some k) e at = quiet-whether _ _ at

  pub quiet-picks : (rows : List LibraryRow) (e : TypedExpr) (at : Place) → Quiet (picks passes rows e at)
  quiet-picks [] e at = quiet-fails _ at
  quiet-picks (row ∷ rows) e at = quiet-then _ _ (quiet-receiver row.receiver e at) (λ b. quiet-either b _ _ (quiet-some _) (quiet-picks rows e at))

  pub quiet-pushed : (receiver : Option Shared) (at : Place) → Quiet (expects_pushed passes receiver at)
  quiet-pushed None at = quiet-some _
  quiet-pushed (Some t) at = quiet-then _ _ (quiet-member-at _ _ at) (λ m. quiet-wants-some _)

  pub quiet-of-library : (call : LibraryCall) (receiver : Option Shared) (takes : Takes) (at : Place) → Quiet (expects_of_library passes call receiver takes at)
  quiet-of-library Push receiver takes at = quiet-pushed receiver at
  quiet-of-library call receiver takes at = quiet-wants-kind takes

  pub quiet-expects-by : (c : Called) (n : ℕ) (at : Place) → Quiet (expects_by passes c n at)
  quiet-expects-by (OfFunction f) n at = quiet-wants-copy _
  quiet-expects-by OfValue n at = quiet-wants None
  quiet-expects-by (OfLibrary row receiver) n at = quiet-of-library row.call receiver _ at

  pub quiet-fits : (c : CallAtWork) (at : Place) → Quiet (argument_fits passes c at)
  quiet-fits c at =
      quiet-then _ _ (quiet-some _) (λ w. quiet-then _ _ (quiet-some _) (λ e. quiet-then _ _ (quiet-below-if w e at) (λ u. quiet-then _ _ (quiet-no-more 1) (λ v. quiet-sets-call _))))

  pub quiet-applies : (all : List TypedExpr) (at : Place) → Quiet (applies_to passes all at)
  quiet-applies [] at = quiet-some _
  quiet-applies (f ∷ args) at = quiet-then _ _ (quiet-asking _) (λ atom. quiet-asking _)
