-- The words of the needs of expressions and actions: units in parts stay, and variables that are seen stay stored.
use Rattle.std.proofs.Common.{◌∷◌, ℕ, suc, Bool, true, false, List, [], Option, None, Some, Result, Ok, Err, refl}
use Rattle.std.specs.List.{list_any}
use Rattle.bal_base.specs.declared.fault.Fault.{Fault}
use Rattle.bal_base.specs.declared.place.Place.{Place}
use Rattle.bal_base.specs.declared.shape.Shape.{Shape}
use Rattle.bal_base.specs.declared.text.Text.{Text}
use Rattle.bal_tree.specs.declared.action.Peer.{Peer}
use Rattle.bal_tree.specs.declared.name.QualifiedName.{QualifiedName}
use Rattle.descriptors.specs.declared.names.Meaning.{Meaning}
use Rattle.descriptors.specs.declared.names.Meaning.TheVariants as meaning
use Rattle.descriptors.specs.declared.names.Names.{Names}
use Rattle.descriptors.specs.declared.names.Signature.{Signature}
use Rattle.operations.specs.declared.library.LibraryCall.{LibraryCall}
use Rattle.operations.specs.declared.library.LibraryCall.TheVariants.{Println, Print, Readln, FromString, Abs, ToString, Clone, CloneReadOnly, StringLength, StartsWith, Trim, Substring, ToUpperAscii, ToLowerAscii, ToCodePointInts, ListLength, Push, Pop, RemoveItem, Slice, Reverse, MappingLength, Keys, HasKey, Get, RemoveKey, Message, Cause, Detail}
use Rattle.type_model.specs.declared.answers.Keys.{Keys as MemberKeys}
use Rattle.type_model.specs.declared.answers.TypeLimit.{TypeLimit}
use Rattle.type_model.specs.declared.atoms.AtomDef.{AtomDef}
use Rattle.type_model.specs.declared.atoms.FieldDef.{FieldDef}
use Rattle.type_model.specs.declared.basic.Choice.{Choice}
use Rattle.type_model.specs.declared.basic.SemType.{SemType}
use Rattle.type_model.specs.declared.basic.Ty.{Ty}
use Rattle.type_model.specs.Calls.{Asked}
use Rattle.typed_tree.specs.declared.event.SeenEvent.{SeenEvent}
use Rattle.typed_tree.specs.declared.expr.TypedExpr.{TypedExpr}
use Rattle.typed_tree.specs.declared.form.StrictForm.{StrictForm}
use Rattle.typed_tree.specs.SharedTypes.{Shared}
use Rattle.expr_needs.specs.declared.expected.Expected.{Expected}
use Rattle.expr_needs.specs.declared.expected.Expected.TheVariants as expected
use Rattle.expr_needs.specs.declared.kind.Kind.{Kind}
use Rattle.expr_needs.specs.declared.kind.Kind.TheVariants as kind
use Rattle.flow_narrowing.specs.declared.flow.Variable.{Variable}
use Rattle.check_words.specs.declared.access.Access.{Access}
use Rattle.check_words.specs.declared.access.Access.TheVariants.{Char, Item, Key}
use Rattle.check_words.specs.Actions.{awaits_by, known_result, makes_message, message_to, peer_of, receives, receives_as, result_of, takes_wants}
use Rattle.check_words.specs.Calls.{applies_to, argument_fits, calls_function, calls_library, calls_meaning, calls_seen, calls_seen_value, expects_by, expects_of_library, expects_pushed, gives_by, is_receiver, lists_by, makes_call_of, makes_library, picks, starts_of, wants_copy, wants_kind}
use Rattle.check_words.specs.Constructors.{added_type, adds_member, atom_of, chooses_by, chooses_constructor, chooses_for, first_fit, fits_field, fits_fields, fits_keys, is_frozen, is_key, may_stand, takes_key}
use Rattle.check_words.specs.Library.{LibraryRow, Takes}
use Rattle.check_words.specs.Members.{field_type, has_part, is_accessed, is_accessed_as, is_structure, member_at, reads_element, some_member_at}
use Rattle.check_words.specs.Seen.{Seen, SeenVariable, SeenWorker, SeenConstant, SeenLibrary, SeenMeaning, SeenNothing, looks_up}
use Rattle.check_words.specs.State.{CallAtWork, Called, ConstructorAtWork, OfFunction, OfLibrary, OfValue}
use Rattle.check_words.specs.Values.{checked, decided, gives_meaning, gives_named, gives_seen, sorts, takes_sort, wants_beside_error, widened, widens_to}
use Rattle.check_words.specs.Words.{Atoms, below_if, closes_call, is_of, is_within, opens_call, sets_call, whether_some, whether_within}
use Rattle.typed_needs.proofs.Questions.{adds-behind, applied-behind, below-behind, field-asked-behind, has-some-behind, is-below-behind, member-behind, names-behind}
use Rattle.calm_needs.proofs.Calming.{Calm, calm-asking, calm-becomes, calm-beside, calm-either, calm-fails, calm-new-slot, calm-no-more, calm-none, calm-opens-constructor, calm-refuses, calm-same, calm-sets-constructor, calm-some, calm-makes, calm-then, calm-unless, calm-wants, calm-wants-some}
use Rattle.calm_needs.proofs.PlacedParts.{check-units, local-units, of-these, strict-units}

-- ---- names, literals and operators

pub calm-meaning : (m : Meaning) (at : Place) → Calm (gives_meaning m at)
calm-meaning (meaning.TypeName t) at = calm-fails _ at
calm-meaning (meaning.Constant t) at = calm-then _ _ (calm-some _) (λ c. calm-makes 0 _ (λ env parts e h. strict-units e h.2))
calm-meaning (meaning.Variable number final t) at = calm-makes 0 _ (λ env parts e h. strict-units e h.2)
calm-meaning (meaning.Function f) at = calm-makes 0 _ (λ env parts e h. strict-units e h.2)

pub calm-seen : (seen : Seen) (at : Place) → Calm (gives_seen seen at)
calm-seen (SeenVariable v) at = calm-then _ _ (calm-unless _ _ at) (λ u. calm-none _ (λ env parts e h. local-units e h.2))
calm-seen (SeenWorker w) at = calm-fails _ at
calm-seen (SeenConstant c) at = calm-makes 0 _ (λ env parts e h. strict-units e h.2)
calm-seen (SeenLibrary call) at = calm-fails _ at
calm-seen (SeenMeaning m) at = calm-meaning m at
calm-seen (SeenNothing code) at = calm-fails _ at

pub calm-looks-up : (names : Names) (q : QualifiedName) → Calm (looks_up names q)
calm-looks-up names q = calm-then _ _ (calm-some _) (λ u. calm-some _)

pub calm-takes-sort : Calm takes_sort
calm-takes-sort = calm-then _ _ (calm-some _) (λ c. calm-then _ _ (calm-becomes _ (λ s. calm-beside s _ refl refl refl refl refl)) (λ u. calm-some _))

pub calm-sorts : (ints : Bool) → Calm (sorts ints)
calm-sorts ints = calm-becomes _ (λ s. calm-beside s _ refl refl refl refl refl)

pub calm-checked : (panics : Bool) (at : Place) → Calm (checked panics at)
calm-checked panics at = calm-then _ _ (calm-some _) (λ a. calm-then _ _ (calm-new-slot _) (λ own. calm-makes 1 _ (λ env parts e (b, is, (t, k, view)). of-these e is (check-units e view))))

pub calm-beside-error : (w : Option Shared) → Calm (wants_beside_error w)
calm-beside-error None = calm-wants None
calm-beside-error (Some t) = calm-wants-some _

-- ---- calls

pub calm-opens-call : (c : CallAtWork) → Calm (opens_call c)
calm-opens-call c = calm-becomes _ (λ s. calm-beside s _ refl refl refl refl refl)

pub calm-sets-call : (c : CallAtWork) → Calm (sets_call c)
calm-sets-call c = calm-becomes _ (λ s. calm-beside s _ refl refl refl refl refl)

pub calm-closes-call : Calm closes_call
calm-closes-call = calm-then _ _ (calm-some _) (λ c. calm-then _ _ (calm-becomes _ (λ s. calm-beside s _ refl refl refl refl refl)) (λ u. calm-some _))

pub calm-function : (f : Signature) (count : ℕ) (at : Place) → Calm (calls_function f count at)
calm-function f count at = calm-then _ _ (calm-unless _ _ at) (λ u. calm-opens-call _)

pub calm-library : (row : LibraryRow) (receiver : Option Shared) (count : ℕ) (at : Place) → Calm (calls_library row receiver count at)
calm-library row receiver count at = calm-then _ _ (calm-unless _ _ at) (λ u. calm-opens-call _)

pub calm-wants-copy : (ts : List Ty) → Calm (wants_copy ts)
calm-wants-copy [] = calm-some _
calm-wants-copy (t ∷ ts) = calm-wants-some _

pub calm-wants-kind : (takes : Takes) → Calm (wants_kind takes)
calm-wants-kind None = calm-wants None
calm-wants-kind (Some k) = calm-wants-some _

pub calm-gives : (n : ℕ) (call : LibraryCall) (P : Atoms → Ty → Type 0) (at : Place) → Calm (gives_by n call P at)
calm-gives n call P at = calm-makes n _ (λ env parts e h. strict-units e h.2)

pub calm-lists : (n : ℕ) (call : LibraryCall) (P : Atoms → Ty → Type 0) (at : Place) → Calm (lists_by n call P at)
calm-lists n call P at = calm-then _ _ (calm-asking _ (adds-behind _ _)) (λ atom. calm-makes n _ (λ env parts e h. strict-units e h.2))

-- ---- actions

pub calm-known : (r : Option (Result Shared Fault)) → Calm (known_result r)
calm-known (Some (Ok t)) = calm-some _
calm-known (Some (Err fault)) = calm-refuses _
calm-known None = calm-some _

pub calm-result : (w : ℕ) → Calm (result_of w)
calm-result w = calm-then _ _ (calm-some _) (λ site. calm-known _)

pub calm-peer : (p : Peer) → Calm (peer_of p)
calm-peer p = calm-then _ _ (calm-some _) (λ site. calm-then _ _ (calm-some _) (λ u. calm-some _))

pub calm-receives-as : (w : Option Shared) (peer : Peer) (at : Place) → Calm (receives_as w peer at)
calm-receives-as None peer at = calm-fails _ at
calm-receives-as (Some t) peer at = calm-then _ _ (calm-peer peer) (λ p. calm-makes 0 _ (λ env parts e h. strict-units e h.2))

pub calm-receives : (e : Expected) (peer : Peer) (at : Place) → Calm (receives e peer at)
calm-receives expected.Nothing peer at = calm-receives-as None peer at
calm-receives expected.Immutable peer at = calm-receives-as None peer at
calm-receives expected.Wanted peer at = calm-then _ _ (calm-some _) (λ w. calm-receives-as w peer at)

pub calm-message : (may_fail : Bool) (count : ℕ) (form : StrictForm) (peer : ℕ) (at : Place) → Calm (makes_message may_fail count form peer at)
calm-message false count form peer at = calm-makes count _ (λ env parts e h. strict-units e h.2)
calm-message true count form peer at = calm-then _ _ (calm-result peer) (λ t. calm-makes count _ (λ env parts e h. strict-units e h.2))

pub calm-message-to : (fails_by : ℕ → ℕ → List SeenEvent → Bool) (count : ℕ) (form : StrictForm) (peer : Option ℕ) (at : Place) → Calm (message_to fails_by count form peer at)
calm-message-to fails_by count form None at = calm-makes count _ (λ env parts e h. strict-units e h.2)
calm-message-to fails_by count form (Some peer) at = calm-then _ _ (calm-some _) (λ site. calm-then _ _ (calm-some _) (λ u. calm-message _ count form peer at))

pub calm-takes-wants : (count : ℕ) → Calm (takes_wants count)
calm-takes-wants count = calm-then _ _ (calm-some _) (λ ws. calm-then _ _ (calm-some _) (λ ts. calm-then _ _ (calm-no-more count) (λ u. calm-some _)))

-- ---- constructors

pub calm-takes-key : (text : Text) (at : Place) → Calm (takes_key text at)
calm-takes-key text at = calm-then _ _ (calm-some _) (λ c. calm-either (list_any (is_key text) c.keys) _ _ (calm-fails _ at) (calm-sets-constructor _))

pub calm-atom-of : (choice : Option ℕ) (P : Atoms → List AtomDef → Type 0) (at : Place) → Calm (atom_of choice P at)
calm-atom-of (Some atom) P at = calm-some _
calm-atom-of None P at = calm-asking _ (adds-behind _ _)

module _ (passes : List AtomDef → Asked → TypeLimit → Type 0) where
  -- ---- questions

  pub calm-within : (P : Atoms → Ty → Type 0) (s : SemType) (at : Place) → Calm (is_within passes P s at)
  calm-within P s at = calm-then _ _ (calm-some _) (λ t. calm-asking _ (below-behind passes s t.sem (Some at)))

  pub calm-whether : (P : Atoms → Ty → Type 0) (s : SemType) (at : Place) → Calm (whether_within passes P s at)
  calm-whether P s at = calm-then _ _ (calm-some _) (λ t. calm-asking _ (is-below-behind passes s t.sem (Some at)))

  pub calm-whether-some : (P : Atoms → Ty → Type 0) (at : Place) → Calm (whether_some passes P at)
  calm-whether-some P at = calm-then _ _ (calm-some _) (λ t. calm-asking _ (has-some-behind passes t.sem (Some at)))

  pub calm-is-of : (k : Kind) (at : Place) → Calm (is_of passes k at)
  calm-is-of k at = calm-then _ _ (calm-some _) (λ e. calm-within _ _ at)

  pub calm-below-if : (w : Option Shared) (e : TypedExpr) (at : Place) → Calm (below_if passes w e at)
  calm-below-if None e at = calm-some _
  calm-below-if (Some t) e at = calm-asking _ (below-behind passes _ _ (Some at))

  -- ---- operators and tests

  pub calm-decided : (ints : Bool) (e : SemType) (at : Place) → Calm (decided passes ints e at)
  calm-decided true e at = calm-some _
  calm-decided false e at = calm-within _ e at

  pub calm-widens-to : (kinds : List Kind) (t : Shared) (at : Place) → Calm (widens_to passes kinds t at)
  calm-widens-to [] t at = calm-some _
  calm-widens-to (k ∷ kinds) t at = calm-then _ _ (calm-whether _ _ at) (λ b. calm-either b _ _ (calm-some _) (calm-widens-to kinds t at))

  pub calm-widened : (t : Shared) (at : Place) → Calm (widened passes t at)
  calm-widened t at = calm-widens-to (kind.Integer ∷ kind.Text ∷ kind.Truth ∷ []) t at

  -- ---- members

  pub calm-accessed-as : (a : Access) (at : Place) → Calm (is_accessed_as passes a at)
  calm-accessed-as a at = calm-then _ _ (calm-is-of _ at) (λ u. calm-becomes _ (λ s. calm-beside s _ refl refl refl refl refl))

  pub calm-has-part : (P : Shape → Type 0) (at : Place) → Calm (has_part passes P at)
  calm-has-part P at = calm-then _ _ (calm-some _) (λ e. calm-whether-some _ at)

  pub calm-structure : (at : Place) → Calm (is_structure passes at)
  calm-structure at = calm-then _ _ (calm-has-part _ at) (λ b. calm-either b _ _ (calm-accessed-as Item at) (calm-accessed-as Key at))

  pub calm-accessed : (texts : Bool) (at : Place) → Calm (is_accessed passes texts at)
  calm-accessed true at = calm-then _ _ (calm-has-part _ at) (λ b. calm-either b _ _ (calm-accessed-as Char at) (calm-structure at))
  calm-accessed false at = calm-structure at

  pub calm-member-at : (t : SemType) (keys : MemberKeys) (at : Place) → Calm (member_at passes t keys at)
  calm-member-at t keys at = calm-asking _ (member-behind passes t keys (Some at))

  pub calm-some-member : (t : SemType) (keys : MemberKeys) (at : Place) → Calm (some_member_at passes t keys at)
  calm-some-member t keys at =
      calm-then _ _ (calm-member-at t keys at) (λ m. calm-then _ _ (calm-asking _ (has-some-behind passes m (Some at))) (λ b. calm-then _ _ (calm-unless b _ at) (λ u. calm-some _)))

  pub calm-reads : (a : Access) (at : Place) → Calm (reads_element passes a at)
  calm-reads Char at = calm-makes 2 _ (λ env parts e h. strict-units e h.2)
  calm-reads Item at =
      calm-then _ _ (calm-some _) (λ p. calm-then _ _ (calm-asking _ (names-behind passes Item _ at)) (λ keys.
      calm-then _ _ (calm-some-member _ keys at) (λ m. calm-makes 2 _ (λ env parts e h. strict-units e h.2))))
  calm-reads Key at =
      calm-then _ _ (calm-some _) (λ p. calm-then _ _ (calm-asking _ (names-behind passes Key _ at)) (λ keys.
      calm-then _ _ (calm-member-at _ keys at) (λ m. calm-makes 2 _ (λ env parts e h. strict-units e h.2))))

  pub calm-field-type : (name : Text) (t : SemType) (at : Place) → Calm (field_type passes name t at)
  calm-field-type name t at =
      calm-then _ _ (calm-then _ _ (calm-asking _ (adds-behind _ _)) (λ atom. calm-then _ _ (calm-asking _ (is-below-behind passes t _ (Some at))) (λ b. calm-unless b _ at)))
      (λ u. calm-member-at t _ at)

  -- ---- constructors

  module _ (own : Ty → List Choice) (Fits : Atoms → Choice → Type 0) where
    pub calm-first-fit : (all : List Choice) (at : Place) → Calm (first_fit Fits all at)
    unfolding first_fit
    calm-first-fit all at old new c (x, e) = calm-same old new e

    pub calm-chooses-by : (all : List Choice) (t : Ty) (at : Place) → Calm (chooses_by passes own Fits all t at)
    calm-chooses-by [] t at = calm-then _ _ (calm-whether _ _ at) (λ b. calm-opens-constructor _)
    calm-chooses-by (c ∷ cs) t at = calm-then _ _ (calm-first-fit _ at) (λ d. calm-opens-constructor _)

    pub calm-chooses-for : (w : Option Shared) (at : Place) → Calm (chooses_for passes own Fits w at)
    calm-chooses-for None at = calm-opens-constructor _
    calm-chooses-for (Some t) at = calm-chooses-by _ t.value at

    pub calm-constructor : (e : Expected) (at : Place) → Calm (chooses_constructor passes own Fits e at)
    calm-constructor expected.Nothing at = calm-opens-constructor _
    calm-constructor expected.Immutable at = calm-opens-constructor _
    calm-constructor expected.Wanted at = calm-then _ _ (calm-some _) (λ w. calm-chooses-for w at)

  pub calm-frozen : (e : TypedExpr) (at : Place) → Calm (is_frozen passes e at)
  calm-frozen e at = calm-then _ _ (calm-whether _ _ at) (λ b. calm-unless b _ at)

  pub calm-fits-field : (key : SemType) (e : TypedExpr) (at : Place) (f : FieldDef) → Calm (fits_field passes key e at f)
  calm-fits-field key e at f =
      calm-then _ _ (calm-asking _ (field-asked-behind passes f.name key)) (λ b.
      calm-either b _ _ (calm-then _ _ (calm-some _) (λ t. calm-asking _ (below-behind passes _ t (Some at)))) (calm-some _))

  pub calm-fits-fields : (key : SemType) (e : TypedExpr) (at : Place) (fields : List FieldDef) → Calm (fits_fields passes key e at fields)
  calm-fits-fields key e at [] = calm-some _
  calm-fits-fields key e at (f ∷ fields) = calm-then _ _ (calm-fits-field key e at f) (λ u. calm-fits-fields key e at fields)

  pub calm-fits-keys : (choice : Option ℕ) (key : Option Text) (at : Place) → Calm (fits_keys passes choice key at)
  calm-fits-keys None key at = calm-some _
  calm-fits-keys (Some atom) (Some key) at = calm-some _
  calm-fits-keys (Some atom) None at = calm-then _ _ (calm-some _) (λ p. calm-then _ _ (calm-some _) (λ fields. calm-fits-fields _ _ at fields))

  pub calm-may-stand : (c : ConstructorAtWork) (e : TypedExpr) (at : Place) → Calm (may_stand passes c e at)
  calm-may-stand c e at = calm-either c.immutable _ _ (calm-frozen e at) (calm-some _)

  pub calm-added-type : (choice : Option ℕ) (e : TypedExpr) (at : Place) → Calm (added_type passes choice e at)
  calm-added-type None e at = calm-widened _ at
  calm-added-type (Some atom) e at = calm-some _

  pub calm-adds-member : (c : ConstructorAtWork) (e : TypedExpr) (at : Place) → Calm (adds_member passes c e at)
  calm-adds-member c e at = calm-then _ _ (calm-added-type c.choice e at) (λ t. calm-then _ _ (calm-some _) (λ u. calm-sets-constructor _))

  -- ---- calls

  pub calm-seen-value : (seen : Seen) (at : Place) → Calm (calls_seen_value passes seen at)
  calm-seen-value seen at = calm-then _ _ (calm-seen seen at) (λ u. calm-then _ _ (calm-is-of kind.AnyFunction at) (λ v. calm-opens-call _))

  pub calm-called-meaning : (m : Meaning) (count : ℕ) (name at : Place) → Calm (calls_meaning passes m count name at)
  calm-called-meaning (meaning.Function f) count name at = calm-function f count at
  calm-called-meaning (meaning.TypeName t) count name at = calm-fails _ name
  calm-called-meaning (meaning.Constant t) count name at = calm-seen-value (SeenMeaning (meaning.Constant t)) name
  calm-called-meaning (meaning.Variable number final t) count name at = calm-seen-value (SeenMeaning (meaning.Variable number final t)) name

  pub calm-called : (started : Bool) (seen : Seen) (count : ℕ) (name at : Place) → Calm (calls_seen passes started seen count name at)
  calm-called started (SeenVariable v) count name at = calm-seen-value (SeenVariable v) name
  calm-called started (SeenWorker w) count name at = calm-fails _ name
  calm-called started (SeenConstant c) count name at = calm-seen-value (SeenConstant c) name
  calm-called started (SeenLibrary row) count name at = calm-either started _ _ (calm-fails _ name) (calm-library row None count at)
  calm-called started (SeenMeaning m) count name at = calm-called-meaning m count name at
  calm-called started (SeenNothing code) count name at = calm-fails code name

  pub calm-receiver : (takes : Takes) (e : TypedExpr) (at : Place) → Calm (is_receiver passes takes e at)
  calm-receiver None e at = calm-some _
  calm-receiver (Some k) e at = calm-whether _ _ at

  pub calm-picks : (rows : List LibraryRow) (e : TypedExpr) (at : Place) → Calm (picks passes rows e at)
  calm-picks [] e at = calm-fails _ at
  calm-picks (row ∷ rows) e at = calm-then _ _ (calm-receiver row.receiver e at) (λ b. calm-either b _ _ (calm-some _) (calm-picks rows e at))

  pub calm-pushed : (receiver : Option Shared) (at : Place) → Calm (expects_pushed passes receiver at)
  calm-pushed None at = calm-some _
  calm-pushed (Some t) at = calm-then _ _ (calm-member-at _ _ at) (λ m. calm-wants-some _)

  pub calm-of-library : (call : LibraryCall) (receiver : Option Shared) (takes : Takes) (at : Place) → Calm (expects_of_library passes call receiver takes at)
  calm-of-library Push receiver takes at = calm-pushed receiver at
  calm-of-library call receiver takes at = calm-wants-kind takes

  pub calm-expects-by : (c : Called) (n : ℕ) (at : Place) → Calm (expects_by passes c n at)
  calm-expects-by (OfFunction f) n at = calm-wants-copy _
  calm-expects-by OfValue n at = calm-wants None
  calm-expects-by (OfLibrary row receiver) n at = calm-of-library row.call receiver _ at

  pub calm-fits : (c : CallAtWork) (at : Place) → Calm (argument_fits passes c at)
  calm-fits c at =
      calm-then _ _ (calm-some _) (λ w. calm-then _ _ (calm-some _) (λ e. calm-then _ _ (calm-below-if w e at) (λ u. calm-then _ _ (calm-no-more 1) (λ v. calm-sets-call _))))

  pub calm-made : (call : LibraryCall) (receiver : Option Shared) (n : ℕ) (at : Place) → Calm (makes_library passes call receiver n at)
  calm-made Println receiver n at = calm-gives n _ _ at
  calm-made Print receiver n at = calm-gives n _ _ at
  calm-made Readln receiver n at = calm-gives n _ _ at
  calm-made FromString receiver n at = calm-gives n _ _ at
  calm-made Abs receiver n at = calm-gives n _ _ at
  calm-made ToString receiver n at = calm-gives n _ _ at
  calm-made Clone receiver n at = calm-then _ _ (calm-some _) (λ t. calm-makes n _ (λ env parts e h. strict-units e h.2))
  calm-made CloneReadOnly receiver n at = calm-then _ _ (calm-some _) (λ t. calm-then _ _ (calm-some _) (λ u. calm-makes n _ (λ env parts e h. strict-units e h.2)))
  calm-made StringLength receiver n at = calm-gives n _ _ at
  calm-made StartsWith receiver n at = calm-gives n _ _ at
  calm-made Trim receiver n at = calm-gives n _ _ at
  calm-made Substring receiver n at = calm-gives n _ _ at
  calm-made ToUpperAscii receiver n at = calm-gives n _ _ at
  calm-made ToLowerAscii receiver n at = calm-gives n _ _ at
  calm-made ToCodePointInts receiver n at = calm-lists n _ _ at
  calm-made ListLength receiver n at = calm-gives n _ _ at
  calm-made Push receiver n at = calm-gives n _ _ at
  calm-made Pop receiver n at = calm-then _ _ (calm-some _) (λ t. calm-then _ _ (calm-member-at _ _ at) (λ m. calm-gives n _ _ at))
  calm-made RemoveItem receiver n at = calm-then _ _ (calm-some _) (λ t. calm-then _ _ (calm-member-at _ _ at) (λ m. calm-gives n _ _ at))
  calm-made Slice receiver n at = calm-then _ _ (calm-some _) (λ t. calm-then _ _ (calm-member-at _ _ at) (λ m. calm-lists n _ _ at))
  calm-made Reverse receiver n at = calm-then _ _ (calm-some _) (λ t. calm-then _ _ (calm-member-at _ _ at) (λ m. calm-lists n _ _ at))
  calm-made MappingLength receiver n at = calm-gives n _ _ at
  calm-made Keys receiver n at = calm-lists n _ _ at
  calm-made HasKey receiver n at = calm-gives n _ _ at
  calm-made Get receiver n at = calm-then _ _ (calm-some _) (λ t. calm-then _ _ (calm-member-at _ _ at) (λ m. calm-gives n _ _ at))
  calm-made RemoveKey receiver n at = calm-then _ _ (calm-some _) (λ t. calm-then _ _ (calm-member-at _ _ at) (λ m. calm-gives n _ _ at))
  calm-made Message receiver n at = calm-gives n _ _ at
  calm-made Cause receiver n at = calm-gives n _ _ at
  calm-made Detail receiver n at = calm-gives n _ _ at

  pub calm-applies : (all : List TypedExpr) (at : Place) → Calm (applies_to passes all at)
  calm-applies [] at = calm-some _
  calm-applies (f ∷ args) at = calm-then _ _ (calm-asking _ (adds-behind _ _)) (λ atom. calm-asking _ (applied-behind passes _ _ (Some at)))

  pub calm-call-of : (c : Called) (n : ℕ) (at : Place) → Calm (makes_call_of passes c n at)
  calm-call-of (OfFunction f) n at = calm-makes n _ (λ env parts e h. strict-units e h.2)
  calm-call-of OfValue n at = calm-then _ _ (calm-some _) (λ all. calm-then _ _ (calm-applies all at) (λ t. calm-makes (suc n) _ (λ env parts e h. strict-units e h.2)))
  calm-call-of (OfLibrary row receiver) n at = calm-made row.call receiver _ at

  pub calm-starts-of : (c : Called) (n : ℕ) (here at : Place) → Calm (starts_of passes c n here at)
  calm-starts-of (OfFunction f) n here at = calm-makes n _ (λ env parts e h. strict-units e h.2)
  calm-starts-of OfValue n here at =
      calm-then _ _ (calm-some _) (λ all. calm-then _ _ (calm-applies all here) (λ t. calm-then _ _ (calm-asking _ (adds-behind _ _)) (λ atom. calm-makes (suc n) _ (λ env parts e h. strict-units e h.2))))
  calm-starts-of (OfLibrary row receiver) n here at = calm-some _

  -- ---- names

  module _ (names : Names) where
    pub calm-named : (q : QualifiedName) → Calm (gives_named names q)
    calm-named q = calm-then _ _ (calm-looks-up names q) (λ seen. calm-seen seen q.at)

    pub calm-awaits-by : (q : QualifiedName) (w : Option ℕ) → Calm (awaits_by passes names q w)
    calm-awaits-by q (Some w) = calm-then _ _ (calm-result w) (λ t. calm-wants (Some t))
    calm-awaits-by q None =
        calm-then _ _ (calm-named q) (λ u. calm-then _ _ (calm-is-of kind.AnyFuture q.at) (λ v. calm-then _ _ (calm-some _) (λ e.
        calm-then _ _ (calm-member-at _ _ q.at) (λ m. calm-wants-some _))))
