-- The words of the needs of expressions and actions: atoms come behind those that are there, and units go on.
use Rattle.std.proofs.Common.{◌∷◌, ℕ, suc, Bool, true, false, List, [], Option, None, Some, Result, Ok, Err, refl}
use Rattle.std.specs.List.{list_any}
use Rattle.bal_base.specs.declared.fault.Fault.{Fault}
use Rattle.bal_base.specs.declared.place.Place.{Place}
use Rattle.bal_base.specs.declared.shape.Shape.{Shape}
use Rattle.bal_base.specs.declared.text.Text.{Text}
use Rattle.bal_tree.specs.declared.action.Peer.{Peer}
use Rattle.bal_tree.specs.declared.name.QualifiedName.{QualifiedName}
use Rattle.descriptors.specs.declared.names.Meaning.{Meaning}
use Rattle.descriptors.specs.declared.names.Meaning.TheVariants as meaning
use Rattle.descriptors.specs.declared.names.Names.{Names}
use Rattle.descriptors.specs.declared.names.Signature.{Signature}
use Rattle.operations.specs.declared.library.LibraryCall.{LibraryCall}
use Rattle.operations.specs.declared.library.LibraryCall.TheVariants.{Println, Print, Readln, FromString, Abs, ToString, Clone, CloneReadOnly, StringLength, StartsWith, Trim, Substring, ToUpperAscii, ToLowerAscii, ToCodePointInts, ListLength, Push, Pop, RemoveItem, Slice, Reverse, MappingLength, Keys, HasKey, Get, RemoveKey, Message, Cause, Detail}
use Rattle.type_model.specs.declared.answers.Keys.{Keys as MemberKeys}
use Rattle.type_model.specs.declared.answers.TypeLimit.{TypeLimit}
use Rattle.type_model.specs.declared.atoms.AtomDef.{AtomDef}
use Rattle.type_model.specs.declared.atoms.FieldDef.{FieldDef}
use Rattle.type_model.specs.declared.basic.Choice.{Choice}
use Rattle.type_model.specs.declared.basic.SemType.{SemType}
use Rattle.type_model.specs.declared.basic.Ty.{Ty}
use Rattle.type_model.specs.Calls.{Asked}
use Rattle.typed_tree.specs.declared.event.SeenEvent.{SeenEvent}
use Rattle.typed_tree.specs.declared.expr.TypedExpr.{TypedExpr}
use Rattle.typed_tree.specs.declared.form.StrictForm.{StrictForm}
use Rattle.typed_tree.specs.SharedTypes.{Shared}
use Rattle.expr_needs.specs.declared.expected.Expected.{Expected}
use Rattle.expr_needs.specs.declared.expected.Expected.TheVariants as expected
use Rattle.expr_needs.specs.declared.kind.Kind.{Kind}
use Rattle.expr_needs.specs.declared.kind.Kind.TheVariants as kind
use Rattle.flow_narrowing.specs.declared.flow.Variable.{Variable}
use Rattle.check_words.specs.declared.access.Access.{Access}
use Rattle.check_words.specs.declared.access.Access.TheVariants.{Char, Item, Key}
use Rattle.check_words.specs.Actions.{awaits_by, known_result, makes_message, message_to, peer_of, receives, receives_as, result_of, takes_wants}
use Rattle.check_words.specs.Calls.{applies_to, argument_fits, calls_function, calls_library, calls_meaning, calls_seen, calls_seen_value, expects_by, expects_of_library, expects_pushed, gives_by, is_receiver, lists_by, makes_call_of, makes_library, new_number, opens_unit, picks, starts_of, wants_copy, wants_kind}
use Rattle.check_words.specs.Constructors.{added_type, adds_member, atom_of, chooses_by, chooses_constructor, chooses_for, first_fit, fits_field, fits_fields, fits_keys, is_frozen, is_key, may_stand, takes_key}
use Rattle.check_words.specs.Library.{LibraryRow, Takes}
use Rattle.check_words.specs.Members.{field_type, has_part, is_accessed, is_accessed_as, is_structure, member_at, reads_element, some_member_at}
use Rattle.check_words.specs.Seen.{Seen, SeenVariable, SeenWorker, SeenConstant, SeenLibrary, SeenMeaning, SeenNothing, looks_up}
use Rattle.check_words.specs.State.{CallAtWork, Called, ConstructorAtWork, OfFunction, OfLibrary, OfValue, UnitAtWork}
use Rattle.check_words.specs.Values.{checked, decided, gives_meaning, gives_named, gives_seen, sorts, takes_sort, wants_beside_error, ways_if, ways_of_test, widened, widens_to}
use Rattle.check_words.specs.Words.{Atoms, below_if, closes_call, is_of, is_within, opens_call, sets_call, whether_some, whether_within}
use Rattle.typed_needs.proofs.Going.{Goes, goes-asking, goes-becomes, goes-beside, goes-either, goes-fails, goes-flow-now, goes-handles, goes-makes, goes-new-slot, goes-no-more, goes-opens-constructor, goes-refuses, goes-same, goes-sets-constructor, goes-some, goes-then, goes-unless, goes-wants, goes-wants-some, goes-with-unit}
use Rattle.typed_needs.proofs.Questions.{adds-behind, applied-behind, below-behind, field-asked-behind, has-some-behind, is-below-behind, member-behind, names-behind, where-false-behind}

-- ---- names, literals and operators

pub goes-meaning : (m : Meaning) (at : Place) → Goes (gives_meaning m at)
goes-meaning (meaning.TypeName t) at = goes-fails _ at
goes-meaning (meaning.Constant t) at = goes-then _ _ (goes-some _) (λ c. goes-makes 0 _)
goes-meaning (meaning.Variable number final t) at = goes-makes 0 _
goes-meaning (meaning.Function f) at = goes-makes 0 _

pub goes-seen : (seen : Seen) (at : Place) → Goes (gives_seen seen at)
goes-seen (SeenVariable v) at = goes-then _ _ (goes-unless _ _ at) (λ u. goes-makes 0 _)
goes-seen (SeenWorker w) at = goes-fails _ at
goes-seen (SeenConstant c) at = goes-makes 0 _
goes-seen (SeenLibrary call) at = goes-fails _ at
goes-seen (SeenMeaning m) at = goes-meaning m at
goes-seen (SeenNothing code) at = goes-fails _ at

pub goes-looks-up : (names : Names) (q : QualifiedName) → Goes (looks_up names q)
goes-looks-up names q = goes-then _ _ (goes-some _) (λ u. goes-some _)

pub goes-takes-sort : Goes takes_sort
goes-takes-sort = goes-then _ _ (goes-some _) (λ c. goes-then _ _ (goes-becomes _ (λ s. goes-beside s _ refl refl)) (λ u. goes-some _))

pub goes-sorts : (ints : Bool) → Goes (sorts ints)
goes-sorts ints = goes-becomes _ (λ s. goes-beside s _ refl refl)

pub goes-checked : (panics : Bool) (at : Place) → Goes (checked panics at)
goes-checked panics at = goes-then _ _ (goes-some _) (λ a. goes-then _ _ (goes-new-slot _) (λ own. goes-makes 1 _))

pub goes-beside-error : (w : Option Shared) → Goes (wants_beside_error w)
goes-beside-error None = goes-wants None
goes-beside-error (Some t) = goes-wants-some _

-- ---- calls

pub goes-opens-call : (c : CallAtWork) → Goes (opens_call c)
goes-opens-call c = goes-becomes _ (λ s. goes-beside s _ refl refl)

pub goes-sets-call : (c : CallAtWork) → Goes (sets_call c)
goes-sets-call c = goes-becomes _ (λ s. goes-beside s _ refl refl)

pub goes-closes-call : Goes closes_call
goes-closes-call = goes-then _ _ (goes-some _) (λ c. goes-then _ _ (goes-becomes _ (λ s. goes-beside s _ refl refl)) (λ u. goes-some _))

pub goes-function : (f : Signature) (count : ℕ) (at : Place) → Goes (calls_function f count at)
goes-function f count at = goes-then _ _ (goes-unless _ _ at) (λ u. goes-opens-call _)

pub goes-library : (row : LibraryRow) (receiver : Option Shared) (count : ℕ) (at : Place) → Goes (calls_library row receiver count at)
goes-library row receiver count at = goes-then _ _ (goes-unless _ _ at) (λ u. goes-opens-call _)

pub goes-wants-copy : (ts : List Ty) → Goes (wants_copy ts)
goes-wants-copy [] = goes-some _
goes-wants-copy (t ∷ ts) = goes-wants-some _

pub goes-wants-kind : (takes : Takes) → Goes (wants_kind takes)
goes-wants-kind None = goes-wants None
goes-wants-kind (Some k) = goes-wants-some _

pub goes-gives : (n : ℕ) (call : LibraryCall) (P : Atoms → Ty → Type 0) (at : Place) → Goes (gives_by n call P at)
goes-gives n call P at = goes-makes n _

pub goes-lists : (n : ℕ) (call : LibraryCall) (P : Atoms → Ty → Type 0) (at : Place) → Goes (lists_by n call P at)
goes-lists n call P at = goes-then _ _ (goes-asking _ (adds-behind _ _)) (λ atom. goes-makes n _)

-- ---- units

pub goes-new-number : Goes new_number
goes-new-number = goes-then _ _ (goes-some _) (λ n. goes-then _ _ (goes-becomes _ (λ s. goes-beside s _ refl refl)) (λ u. goes-some _))

pub goes-opens-unit : (u : UnitAtWork) → Goes (opens_unit u)
goes-opens-unit u = goes-then _ _ (goes-handles _ _) (λ v. goes-becomes _ (λ s. goes-with-unit s _ v refl refl))

-- ---- actions

pub goes-known : (r : Option (Result Shared Fault)) → Goes (known_result r)
goes-known (Some (Ok t)) = goes-some _
goes-known (Some (Err fault)) = goes-refuses _
goes-known None = goes-some _

pub goes-result : (w : ℕ) → Goes (result_of w)
goes-result w = goes-then _ _ (goes-some _) (λ site. goes-known _)

pub goes-peer : (p : Peer) → Goes (peer_of p)
goes-peer p = goes-then _ _ (goes-some _) (λ site. goes-then _ _ (goes-some _) (λ u. goes-some _))

pub goes-receives-as : (w : Option Shared) (peer : Peer) (at : Place) → Goes (receives_as w peer at)
goes-receives-as None peer at = goes-fails _ at
goes-receives-as (Some t) peer at = goes-then _ _ (goes-peer peer) (λ p. goes-makes 0 _)

pub goes-receives : (e : Expected) (peer : Peer) (at : Place) → Goes (receives e peer at)
goes-receives expected.Nothing peer at = goes-receives-as None peer at
goes-receives expected.Immutable peer at = goes-receives-as None peer at
goes-receives expected.Wanted peer at = goes-then _ _ (goes-some _) (λ w. goes-receives-as w peer at)

pub goes-message : (may_fail : Bool) (count : ℕ) (form : StrictForm) (peer : ℕ) (at : Place) → Goes (makes_message may_fail count form peer at)
goes-message false count form peer at = goes-makes count _
goes-message true count form peer at = goes-then _ _ (goes-result peer) (λ t. goes-makes count _)

pub goes-message-to : (fails_by : ℕ → ℕ → List SeenEvent → Bool) (count : ℕ) (form : StrictForm) (peer : Option ℕ) (at : Place) → Goes (message_to fails_by count form peer at)
goes-message-to fails_by count form None at = goes-makes count _
goes-message-to fails_by count form (Some peer) at = goes-then _ _ (goes-some _) (λ site. goes-then _ _ (goes-some _) (λ u. goes-message _ count form peer at))

pub goes-takes-wants : (count : ℕ) → Goes (takes_wants count)
goes-takes-wants count = goes-then _ _ (goes-some _) (λ ws. goes-then _ _ (goes-some _) (λ ts. goes-then _ _ (goes-no-more count) (λ u. goes-some _)))

-- ---- constructors

pub goes-takes-key : (text : Text) (at : Place) → Goes (takes_key text at)
goes-takes-key text at = goes-then _ _ (goes-some _) (λ c. goes-either (list_any (is_key text) c.keys) _ _ (goes-fails _ at) (goes-sets-constructor _))

pub goes-atom-of : (choice : Option ℕ) (P : Atoms → List AtomDef → Type 0) (at : Place) → Goes (atom_of choice P at)
goes-atom-of (Some atom) P at = goes-some _
goes-atom-of None P at = goes-asking _ (adds-behind _ _)

module _ (passes : List AtomDef → Asked → TypeLimit → Type 0) where
  -- ---- questions

  pub goes-within : (P : Atoms → Ty → Type 0) (s : SemType) (at : Place) → Goes (is_within passes P s at)
  goes-within P s at = goes-then _ _ (goes-some _) (λ t. goes-asking _ (below-behind passes s t.sem (Some at)))

  pub goes-whether : (P : Atoms → Ty → Type 0) (s : SemType) (at : Place) → Goes (whether_within passes P s at)
  goes-whether P s at = goes-then _ _ (goes-some _) (λ t. goes-asking _ (is-below-behind passes s t.sem (Some at)))

  pub goes-whether-some : (P : Atoms → Ty → Type 0) (at : Place) → Goes (whether_some passes P at)
  goes-whether-some P at = goes-then _ _ (goes-some _) (λ t. goes-asking _ (has-some-behind passes t.sem (Some at)))

  pub goes-is-of : (k : Kind) (at : Place) → Goes (is_of passes k at)
  goes-is-of k at = goes-then _ _ (goes-some _) (λ e. goes-within _ _ at)

  pub goes-below-if : (w : Option Shared) (e : TypedExpr) (at : Place) → Goes (below_if passes w e at)
  goes-below-if None e at = goes-some _
  goes-below-if (Some t) e at = goes-asking _ (below-behind passes _ _ (Some at))

  -- ---- operators and tests

  pub goes-decided : (ints : Bool) (e : SemType) (at : Place) → Goes (decided passes ints e at)
  goes-decided true e at = goes-some _
  goes-decided false e at = goes-within _ e at

  pub goes-ways-if : (q : QualifiedName) (v : Option Variable) (t : Shared) (at : Place) → Goes (ways_if passes q v t at)
  goes-ways-if q None t at = goes-some _
  goes-ways-if q (Some v) t at =
      goes-then _ _ goes-flow-now (λ f. goes-then _ _
      (goes-then _ _ (goes-some _) (λ y. goes-then _ _ (goes-asking _ (where-false-behind passes _ t.value at)) (λ n. goes-some _))) (λ types. goes-some _))

  pub goes-ways-of-test : (name : Option QualifiedName) (t : Shared) (at : Place) → Goes (ways_of_test passes name t at)
  goes-ways-of-test None t at = goes-some _
  goes-ways-of-test (Some q) t at = goes-then _ _ goes-flow-now (λ f. goes-ways-if q _ t at)

  pub goes-widens-to : (kinds : List Kind) (t : Shared) (at : Place) → Goes (widens_to passes kinds t at)
  goes-widens-to [] t at = goes-some _
  goes-widens-to (k ∷ kinds) t at = goes-then _ _ (goes-whether _ _ at) (λ b. goes-either b _ _ (goes-some _) (goes-widens-to kinds t at))

  pub goes-widened : (t : Shared) (at : Place) → Goes (widened passes t at)
  goes-widened t at = goes-widens-to (kind.Integer ∷ kind.Text ∷ kind.Truth ∷ []) t at

  -- ---- members

  pub goes-accessed-as : (a : Access) (at : Place) → Goes (is_accessed_as passes a at)
  goes-accessed-as a at = goes-then _ _ (goes-is-of _ at) (λ u. goes-becomes _ (λ s. goes-beside s _ refl refl))

  pub goes-has-part : (P : Shape → Type 0) (at : Place) → Goes (has_part passes P at)
  goes-has-part P at = goes-then _ _ (goes-some _) (λ e. goes-whether-some _ at)

  pub goes-structure : (at : Place) → Goes (is_structure passes at)
  goes-structure at = goes-then _ _ (goes-has-part _ at) (λ b. goes-either b _ _ (goes-accessed-as Item at) (goes-accessed-as Key at))

  pub goes-accessed : (texts : Bool) (at : Place) → Goes (is_accessed passes texts at)
  goes-accessed true at = goes-then _ _ (goes-has-part _ at) (λ b. goes-either b _ _ (goes-accessed-as Char at) (goes-structure at))
  goes-accessed false at = goes-structure at

  pub goes-member-at : (t : SemType) (keys : MemberKeys) (at : Place) → Goes (member_at passes t keys at)
  goes-member-at t keys at = goes-asking _ (member-behind passes t keys (Some at))

  pub goes-some-member : (t : SemType) (keys : MemberKeys) (at : Place) → Goes (some_member_at passes t keys at)
  goes-some-member t keys at =
      goes-then _ _ (goes-member-at t keys at) (λ m. goes-then _ _ (goes-asking _ (has-some-behind passes m (Some at))) (λ b. goes-then _ _ (goes-unless b _ at) (λ u. goes-some _)))

  pub goes-reads : (a : Access) (at : Place) → Goes (reads_element passes a at)
  goes-reads Char at = goes-makes 2 _
  goes-reads Item at =
      goes-then _ _ (goes-some _) (λ p. goes-then _ _ (goes-asking _ (names-behind passes Item _ at)) (λ keys.
      goes-then _ _ (goes-some-member _ keys at) (λ m. goes-makes 2 _)))
  goes-reads Key at =
      goes-then _ _ (goes-some _) (λ p. goes-then _ _ (goes-asking _ (names-behind passes Key _ at)) (λ keys.
      goes-then _ _ (goes-member-at _ keys at) (λ m. goes-makes 2 _)))

  pub goes-field-type : (name : Text) (t : SemType) (at : Place) → Goes (field_type passes name t at)
  goes-field-type name t at =
      goes-then _ _ (goes-then _ _ (goes-asking _ (adds-behind _ _)) (λ atom. goes-then _ _ (goes-asking _ (is-below-behind passes t _ (Some at))) (λ b. goes-unless b _ at)))
      (λ u. goes-member-at t _ at)

  -- ---- constructors

  module _ (own : Ty → List Choice) (Fits : Atoms → Choice → Type 0) where
    pub goes-first-fit : (all : List Choice) (at : Place) → Goes (first_fit Fits all at)
    unfolding first_fit
    goes-first-fit all at old new c (x, e) = goes-same old new e

    pub goes-chooses-by : (all : List Choice) (t : Ty) (at : Place) → Goes (chooses_by passes own Fits all t at)
    goes-chooses-by [] t at = goes-then _ _ (goes-whether _ _ at) (λ b. goes-opens-constructor _)
    goes-chooses-by (c ∷ cs) t at = goes-then _ _ (goes-first-fit _ at) (λ d. goes-opens-constructor _)

    pub goes-chooses-for : (w : Option Shared) (at : Place) → Goes (chooses_for passes own Fits w at)
    goes-chooses-for None at = goes-opens-constructor _
    goes-chooses-for (Some t) at = goes-chooses-by _ t.value at

    pub goes-constructor : (e : Expected) (at : Place) → Goes (chooses_constructor passes own Fits e at)
    goes-constructor expected.Nothing at = goes-opens-constructor _
    goes-constructor expected.Immutable at = goes-opens-constructor _
    goes-constructor expected.Wanted at = goes-then _ _ (goes-some _) (λ w. goes-chooses-for w at)

  pub goes-frozen : (e : TypedExpr) (at : Place) → Goes (is_frozen passes e at)
  goes-frozen e at = goes-then _ _ (goes-whether _ _ at) (λ b. goes-unless b _ at)

  pub goes-fits-field : (key : SemType) (e : TypedExpr) (at : Place) (f : FieldDef) → Goes (fits_field passes key e at f)
  goes-fits-field key e at f =
      goes-then _ _ (goes-asking _ (field-asked-behind passes f.name key)) (λ b.
      goes-either b _ _ (goes-then _ _ (goes-some _) (λ t. goes-asking _ (below-behind passes _ t (Some at)))) (goes-some _))

  pub goes-fits-fields : (key : SemType) (e : TypedExpr) (at : Place) (fields : List FieldDef) → Goes (fits_fields passes key e at fields)
  goes-fits-fields key e at [] = goes-some _
  goes-fits-fields key e at (f ∷ fields) = goes-then _ _ (goes-fits-field key e at f) (λ u. goes-fits-fields key e at fields)

  pub goes-fits-keys : (choice : Option ℕ) (key : Option Text) (at : Place) → Goes (fits_keys passes choice key at)
  goes-fits-keys None key at = goes-some _
  goes-fits-keys (Some atom) (Some key) at = goes-some _
  goes-fits-keys (Some atom) None at = goes-then _ _ (goes-some _) (λ p. goes-then _ _ (goes-some _) (λ fields. goes-fits-fields _ _ at fields))

  pub goes-may-stand : (c : ConstructorAtWork) (e : TypedExpr) (at : Place) → Goes (may_stand passes c e at)
  goes-may-stand c e at = goes-either c.immutable _ _ (goes-frozen e at) (goes-some _)

  pub goes-added-type : (choice : Option ℕ) (e : TypedExpr) (at : Place) → Goes (added_type passes choice e at)
  goes-added-type None e at = goes-widened _ at
  goes-added-type (Some atom) e at = goes-some _

  pub goes-adds-member : (c : ConstructorAtWork) (e : TypedExpr) (at : Place) → Goes (adds_member passes c e at)
  goes-adds-member c e at = goes-then _ _ (goes-added-type c.choice e at) (λ t. goes-then _ _ (goes-some _) (λ u. goes-sets-constructor _))

  -- ---- calls

  pub goes-seen-value : (seen : Seen) (at : Place) → Goes (calls_seen_value passes seen at)
  goes-seen-value seen at = goes-then _ _ (goes-seen seen at) (λ u. goes-then _ _ (goes-is-of kind.AnyFunction at) (λ v. goes-opens-call _))

  pub goes-called-meaning : (m : Meaning) (count : ℕ) (name at : Place) → Goes (calls_meaning passes m count name at)
  goes-called-meaning (meaning.Function f) count name at = goes-function f count at
  goes-called-meaning (meaning.TypeName t) count name at = goes-fails _ name
  goes-called-meaning (meaning.Constant t) count name at = goes-seen-value (SeenMeaning (meaning.Constant t)) name
  goes-called-meaning (meaning.Variable number final t) count name at = goes-seen-value (SeenMeaning (meaning.Variable number final t)) name

  pub goes-called : (started : Bool) (seen : Seen) (count : ℕ) (name at : Place) → Goes (calls_seen passes started seen count name at)
  goes-called started (SeenVariable v) count name at = goes-seen-value (SeenVariable v) name
  goes-called started (SeenWorker w) count name at = goes-fails _ name
  goes-called started (SeenConstant c) count name at = goes-seen-value (SeenConstant c) name
  goes-called started (SeenLibrary row) count name at = goes-either started _ _ (goes-fails _ name) (goes-library row None count at)
  goes-called started (SeenMeaning m) count name at = goes-called-meaning m count name at
  goes-called started (SeenNothing code) count name at = goes-fails code name

  pub goes-receiver : (takes : Takes) (e : TypedExpr) (at : Place) → Goes (is_receiver passes takes e at)
  goes-receiver None e at = goes-some _
  goes-receiver (Some k) e at = goes-whether _ _ at

  pub goes-picks : (rows : List LibraryRow) (e : TypedExpr) (at : Place) → Goes (picks passes rows e at)
  goes-picks [] e at = goes-fails _ at
  goes-picks (row ∷ rows) e at = goes-then _ _ (goes-receiver row.receiver e at) (λ b. goes-either b _ _ (goes-some _) (goes-picks rows e at))

  pub goes-pushed : (receiver : Option Shared) (at : Place) → Goes (expects_pushed passes receiver at)
  goes-pushed None at = goes-some _
  goes-pushed (Some t) at = goes-then _ _ (goes-member-at _ _ at) (λ m. goes-wants-some _)

  pub goes-of-library : (call : LibraryCall) (receiver : Option Shared) (takes : Takes) (at : Place) → Goes (expects_of_library passes call receiver takes at)
  goes-of-library Push receiver takes at = goes-pushed receiver at
  goes-of-library call receiver takes at = goes-wants-kind takes

  pub goes-expects-by : (c : Called) (n : ℕ) (at : Place) → Goes (expects_by passes c n at)
  goes-expects-by (OfFunction f) n at = goes-wants-copy _
  goes-expects-by OfValue n at = goes-wants None
  goes-expects-by (OfLibrary row receiver) n at = goes-of-library row.call receiver _ at

  pub goes-fits : (c : CallAtWork) (at : Place) → Goes (argument_fits passes c at)
  goes-fits c at =
      goes-then _ _ (goes-some _) (λ w. goes-then _ _ (goes-some _) (λ e. goes-then _ _ (goes-below-if w e at) (λ u. goes-then _ _ (goes-no-more 1) (λ v. goes-sets-call _))))

  pub goes-made : (call : LibraryCall) (receiver : Option Shared) (n : ℕ) (at : Place) → Goes (makes_library passes call receiver n at)
  goes-made Println receiver n at = goes-gives n _ _ at
  goes-made Print receiver n at = goes-gives n _ _ at
  goes-made Readln receiver n at = goes-gives n _ _ at
  goes-made FromString receiver n at = goes-gives n _ _ at
  goes-made Abs receiver n at = goes-gives n _ _ at
  goes-made ToString receiver n at = goes-gives n _ _ at
  goes-made Clone receiver n at = goes-then _ _ (goes-some _) (λ t. goes-makes n _)
  goes-made CloneReadOnly receiver n at = goes-then _ _ (goes-some _) (λ t. goes-then _ _ (goes-some _) (λ u. goes-makes n _))
  goes-made StringLength receiver n at = goes-gives n _ _ at
  goes-made StartsWith receiver n at = goes-gives n _ _ at
  goes-made Trim receiver n at = goes-gives n _ _ at
  goes-made Substring receiver n at = goes-gives n _ _ at
  goes-made ToUpperAscii receiver n at = goes-gives n _ _ at
  goes-made ToLowerAscii receiver n at = goes-gives n _ _ at
  goes-made ToCodePointInts receiver n at = goes-lists n _ _ at
  goes-made ListLength receiver n at = goes-gives n _ _ at
  goes-made Push receiver n at = goes-gives n _ _ at
  goes-made Pop receiver n at = goes-then _ _ (goes-some _) (λ t. goes-then _ _ (goes-member-at _ _ at) (λ m. goes-gives n _ _ at))
  goes-made RemoveItem receiver n at = goes-then _ _ (goes-some _) (λ t. goes-then _ _ (goes-member-at _ _ at) (λ m. goes-gives n _ _ at))
  goes-made Slice receiver n at = goes-then _ _ (goes-some _) (λ t. goes-then _ _ (goes-member-at _ _ at) (λ m. goes-lists n _ _ at))
  goes-made Reverse receiver n at = goes-then _ _ (goes-some _) (λ t. goes-then _ _ (goes-member-at _ _ at) (λ m. goes-lists n _ _ at))
  goes-made MappingLength receiver n at = goes-gives n _ _ at
  goes-made Keys receiver n at = goes-lists n _ _ at
  goes-made HasKey receiver n at = goes-gives n _ _ at
  goes-made Get receiver n at = goes-then _ _ (goes-some _) (λ t. goes-then _ _ (goes-member-at _ _ at) (λ m. goes-gives n _ _ at))
  goes-made RemoveKey receiver n at = goes-then _ _ (goes-some _) (λ t. goes-then _ _ (goes-member-at _ _ at) (λ m. goes-gives n _ _ at))
  goes-made Message receiver n at = goes-gives n _ _ at
  goes-made Cause receiver n at = goes-gives n _ _ at
  goes-made Detail receiver n at = goes-gives n _ _ at

  pub goes-applies : (all : List TypedExpr) (at : Place) → Goes (applies_to passes all at)
  goes-applies [] at = goes-some _
  goes-applies (f ∷ args) at = goes-then _ _ (goes-asking _ (adds-behind _ _)) (λ atom. goes-asking _ (applied-behind passes _ _ (Some at)))

  pub goes-call-of : (c : Called) (n : ℕ) (at : Place) → Goes (makes_call_of passes c n at)
  goes-call-of (OfFunction f) n at = goes-makes n _
  goes-call-of OfValue n at = goes-then _ _ (goes-some _) (λ all. goes-then _ _ (goes-applies all at) (λ t. goes-makes (suc n) _))
  goes-call-of (OfLibrary row receiver) n at = goes-made row.call receiver _ at

  pub goes-starts-of : (c : Called) (n : ℕ) (here at : Place) → Goes (starts_of passes c n here at)
  goes-starts-of (OfFunction f) n here at = goes-makes n _
  goes-starts-of OfValue n here at =
      goes-then _ _ (goes-some _) (λ all. goes-then _ _ (goes-applies all here) (λ t. goes-then _ _ (goes-asking _ (adds-behind _ _)) (λ atom. goes-makes (suc n) _)))
  goes-starts-of (OfLibrary row receiver) n here at = goes-some _

  -- ---- names

  module _ (names : Names) where
    pub goes-named : (q : QualifiedName) → Goes (gives_named names q)
    goes-named q = goes-then _ _ (goes-looks-up names q) (λ seen. goes-seen seen q.at)

    pub goes-awaits-by : (q : QualifiedName) (w : Option ℕ) → Goes (awaits_by passes names q w)
    goes-awaits-by q (Some w) = goes-then _ _ (goes-result w) (λ t. goes-wants (Some t))
    goes-awaits-by q None =
        goes-then _ _ (goes-named q) (λ u. goes-then _ _ (goes-is-of kind.AnyFuture q.at) (λ v. goes-then _ _ (goes-some _) (λ e.
        goes-then _ _ (goes-member-at _ _ q.at) (λ m. goes-wants-some _))))
