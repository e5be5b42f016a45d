-- The words of the needs of expressions and actions: what is done of the package stays.
use Rattle.std.proofs.Common.{◌∷◌, ℕ, suc, Bool, true, false, List, [], Option, None, Some, Result, Ok, Err, refl}
use Rattle.std.specs.List.{list_any}
use Rattle.bal_base.specs.declared.fault.Fault.{Fault}
use Rattle.bal_base.specs.declared.place.Place.{Place}
use Rattle.bal_base.specs.declared.shape.Shape.{Shape}
use Rattle.bal_base.specs.declared.text.Text.{Text}
use Rattle.bal_tree.specs.declared.action.Peer.{Peer}
use Rattle.bal_tree.specs.declared.name.QualifiedName.{QualifiedName}
use Rattle.descriptors.specs.declared.names.Meaning.{Meaning}
use Rattle.descriptors.specs.declared.names.Meaning.TheVariants as meaning
use Rattle.descriptors.specs.declared.names.Names.{Names}
use Rattle.descriptors.specs.declared.names.Signature.{Signature}
use Rattle.operations.specs.declared.library.LibraryCall.{LibraryCall}
use Rattle.operations.specs.declared.library.LibraryCall.TheVariants.{Println, Print, Readln, FromString, Abs, ToString, Clone, CloneReadOnly, StringLength, StartsWith, Trim, Substring, ToUpperAscii, ToLowerAscii, ToCodePointInts, ListLength, Push, Pop, RemoveItem, Slice, Reverse, MappingLength, Keys, HasKey, Get, RemoveKey, Message, Cause, Detail}
use Rattle.type_model.specs.declared.answers.Keys.{Keys as MemberKeys}
use Rattle.type_model.specs.declared.answers.TypeLimit.{TypeLimit}
use Rattle.type_model.specs.declared.atoms.AtomDef.{AtomDef}
use Rattle.type_model.specs.declared.atoms.FieldDef.{FieldDef}
use Rattle.type_model.specs.declared.basic.Choice.{Choice}
use Rattle.type_model.specs.declared.basic.SemType.{SemType}
use Rattle.type_model.specs.declared.basic.Ty.{Ty}
use Rattle.type_model.specs.Calls.{Asked}
use Rattle.typed_tree.specs.declared.event.SeenEvent.{SeenEvent}
use Rattle.typed_tree.specs.declared.expr.TypedExpr.{TypedExpr}
use Rattle.typed_tree.specs.declared.form.StrictForm.{StrictForm}
use Rattle.typed_tree.specs.SharedTypes.{Shared}
use Rattle.expr_needs.specs.declared.expected.Expected.{Expected}
use Rattle.expr_needs.specs.declared.expected.Expected.TheVariants as expected
use Rattle.expr_needs.specs.declared.kind.Kind.{Kind}
use Rattle.expr_needs.specs.declared.kind.Kind.TheVariants as kind
use Rattle.flow_narrowing.specs.declared.flow.Variable.{Variable}
use Rattle.check_words.specs.declared.access.Access.{Access}
use Rattle.check_words.specs.declared.access.Access.TheVariants.{Char, Item, Key}
use Rattle.check_words.specs.Actions.{awaits_by, known_result, makes_message, message_to, peer_of, receives, receives_as, result_of, takes_wants}
use Rattle.check_words.specs.Calls.{applies_to, argument_fits, calls_function, calls_library, calls_meaning, calls_seen, calls_seen_value, expects_by, expects_of_library, expects_pushed, gives_by, is_receiver, lists_by, makes_call_of, makes_library, opens_unit, picks, starts_of, wants_copy, wants_kind}
use Rattle.check_words.specs.Constructors.{added_type, adds_member, atom_of, chooses_by, chooses_constructor, chooses_for, first_fit, fits_field, fits_fields, fits_keys, is_frozen, is_key, may_stand, takes_key}
use Rattle.check_words.specs.Library.{LibraryRow, Takes}
use Rattle.check_words.specs.Members.{field_type, has_part, is_accessed, is_accessed_as, is_structure, member_at, reads_element, some_member_at}
use Rattle.check_words.specs.Seen.{Seen, SeenVariable, SeenWorker, SeenConstant, SeenLibrary, SeenMeaning, SeenNothing, looks_up}
use Rattle.check_words.specs.State.{CallAtWork, Called, ConstructorAtWork, OfFunction, OfLibrary, OfValue, UnitAtWork}
use Rattle.check_words.specs.Values.{checked, decided, gives_meaning, gives_named, gives_seen, sorts, takes_sort, wants_beside_error, ways_if, ways_of_test, widened, widens_to}
use Rattle.check_words.specs.Words.{Atoms, below_if, closes_call, is_of, is_within, opens_call, sets_call, whether_some, whether_within}
use Rattle.kept_done.proofs.Keeping.{Keeps, keeps-asking, keeps-becomes, keeps-beside, keeps-either, keeps-fails, keeps-flow-now, keeps-handles, keeps-makes, keeps-new-slot, keeps-no-more, keeps-opens-constructor, keeps-refuses, keeps-same, keeps-sets-constructor, keeps-some, keeps-then, keeps-unless, keeps-wants, keeps-wants-some}

-- ---- names, literals and operators

pub keeps-meaning : (m : Meaning) (at : Place) → Keeps (gives_meaning m at)
keeps-meaning (meaning.TypeName t) at = keeps-fails _ at
keeps-meaning (meaning.Constant t) at = keeps-then _ _ (keeps-some _) (λ c. keeps-makes 0 _)
keeps-meaning (meaning.Variable number final t) at = keeps-makes 0 _
keeps-meaning (meaning.Function f) at = keeps-makes 0 _

pub keeps-seen : (seen : Seen) (at : Place) → Keeps (gives_seen seen at)
keeps-seen (SeenVariable v) at = keeps-then _ _ (keeps-unless _ _ at) (λ u. keeps-makes 0 _)
keeps-seen (SeenWorker w) at = keeps-fails _ at
keeps-seen (SeenConstant c) at = keeps-makes 0 _
keeps-seen (SeenLibrary call) at = keeps-fails _ at
keeps-seen (SeenMeaning m) at = keeps-meaning m at
keeps-seen (SeenNothing code) at = keeps-fails _ at

pub keeps-looks-up : (names : Names) (q : QualifiedName) → Keeps (looks_up names q)
keeps-looks-up names q = keeps-then _ _ (keeps-some _) (λ u. keeps-some _)

pub keeps-takes-sort : Keeps takes_sort
keeps-takes-sort = keeps-then _ _ (keeps-some _) (λ c. keeps-then _ _ (keeps-becomes _ (λ s. keeps-beside s _ refl)) (λ u. keeps-some _))

pub keeps-sorts : (ints : Bool) → Keeps (sorts ints)
keeps-sorts ints = keeps-becomes _ (λ s. keeps-beside s _ refl)

pub keeps-checked : (panics : Bool) (at : Place) → Keeps (checked panics at)
keeps-checked panics at = keeps-then _ _ (keeps-some _) (λ a. keeps-then _ _ (keeps-new-slot _) (λ own. keeps-makes 1 _))

pub keeps-beside-error : (w : Option Shared) → Keeps (wants_beside_error w)
keeps-beside-error None = keeps-wants None
keeps-beside-error (Some t) = keeps-wants-some _

-- ---- calls

pub keeps-opens-call : (c : CallAtWork) → Keeps (opens_call c)
keeps-opens-call c = keeps-becomes _ (λ s. keeps-beside s _ refl)

pub keeps-sets-call : (c : CallAtWork) → Keeps (sets_call c)
keeps-sets-call c = keeps-becomes _ (λ s. keeps-beside s _ refl)

pub keeps-closes-call : Keeps closes_call
keeps-closes-call = keeps-then _ _ (keeps-some _) (λ c. keeps-then _ _ (keeps-becomes _ (λ s. keeps-beside s _ refl)) (λ u. keeps-some _))

pub keeps-function : (f : Signature) (count : ℕ) (at : Place) → Keeps (calls_function f count at)
keeps-function f count at = keeps-then _ _ (keeps-unless _ _ at) (λ u. keeps-opens-call _)

pub keeps-library : (row : LibraryRow) (receiver : Option Shared) (count : ℕ) (at : Place) → Keeps (calls_library row receiver count at)
keeps-library row receiver count at = keeps-then _ _ (keeps-unless _ _ at) (λ u. keeps-opens-call _)

pub keeps-wants-copy : (ts : List Ty) → Keeps (wants_copy ts)
keeps-wants-copy [] = keeps-some _
keeps-wants-copy (t ∷ ts) = keeps-wants-some _

pub keeps-wants-kind : (takes : Takes) → Keeps (wants_kind takes)
keeps-wants-kind None = keeps-wants None
keeps-wants-kind (Some k) = keeps-wants-some _

pub keeps-gives : (n : ℕ) (call : LibraryCall) (P : Atoms → Ty → Type 0) (at : Place) → Keeps (gives_by n call P at)
keeps-gives n call P at = keeps-makes n _

pub keeps-lists : (n : ℕ) (call : LibraryCall) (P : Atoms → Ty → Type 0) (at : Place) → Keeps (lists_by n call P at)
keeps-lists n call P at = keeps-then _ _ (keeps-asking _) (λ atom. keeps-makes n _)

-- ---- units

pub keeps-opens-unit : (u : UnitAtWork) → Keeps (opens_unit u)
keeps-opens-unit u = keeps-then _ _ (keeps-handles _ _) (λ v. keeps-becomes _ (λ s. keeps-beside s _ refl))

-- ---- actions

pub keeps-known : (r : Option (Result Shared Fault)) → Keeps (known_result r)
keeps-known (Some (Ok t)) = keeps-some _
keeps-known (Some (Err fault)) = keeps-refuses _
keeps-known None = keeps-some _

pub keeps-result : (w : ℕ) → Keeps (result_of w)
keeps-result w = keeps-then _ _ (keeps-some _) (λ site. keeps-known _)

pub keeps-peer : (p : Peer) → Keeps (peer_of p)
keeps-peer p = keeps-then _ _ (keeps-some _) (λ site. keeps-then _ _ (keeps-some _) (λ u. keeps-some _))

pub keeps-receives-as : (w : Option Shared) (peer : Peer) (at : Place) → Keeps (receives_as w peer at)
keeps-receives-as None peer at = keeps-fails _ at
keeps-receives-as (Some t) peer at = keeps-then _ _ (keeps-peer peer) (λ p. keeps-makes 0 _)

pub keeps-receives : (e : Expected) (peer : Peer) (at : Place) → Keeps (receives e peer at)
keeps-receives expected.Nothing peer at = keeps-receives-as None peer at
keeps-receives expected.Immutable peer at = keeps-receives-as None peer at
keeps-receives expected.Wanted peer at = keeps-then _ _ (keeps-some _) (λ w. keeps-receives-as w peer at)

pub keeps-message : (may_fail : Bool) (count : ℕ) (form : StrictForm) (peer : ℕ) (at : Place) → Keeps (makes_message may_fail count form peer at)
keeps-message false count form peer at = keeps-makes count _
keeps-message true count form peer at = keeps-then _ _ (keeps-result peer) (λ t. keeps-makes count _)

pub keeps-message-to : (fails_by : ℕ → ℕ → List SeenEvent → Bool) (count : ℕ) (form : StrictForm) (peer : Option ℕ) (at : Place) → Keeps (message_to fails_by count form peer at)
keeps-message-to fails_by count form None at = keeps-makes count _
keeps-message-to fails_by count form (Some peer) at = keeps-then _ _ (keeps-some _) (λ site. keeps-then _ _ (keeps-some _) (λ u. keeps-message _ count form peer at))

pub keeps-takes-wants : (count : ℕ) → Keeps (takes_wants count)
keeps-takes-wants count = keeps-then _ _ (keeps-some _) (λ ws. keeps-then _ _ (keeps-some _) (λ ts. keeps-then _ _ (keeps-no-more count) (λ u. keeps-some _)))

-- ---- constructors

pub keeps-takes-key : (text : Text) (at : Place) → Keeps (takes_key text at)
keeps-takes-key text at = keeps-then _ _ (keeps-some _) (λ c. keeps-either (list_any (is_key text) c.keys) _ _ (keeps-fails _ at) (keeps-sets-constructor _))

pub keeps-atom-of : (choice : Option ℕ) (P : Atoms → List AtomDef → Type 0) (at : Place) → Keeps (atom_of choice P at)
keeps-atom-of (Some atom) P at = keeps-some _
keeps-atom-of None P at = keeps-asking _

module _ (passes : List AtomDef → Asked → TypeLimit → Type 0) where
  -- ---- questions

  pub keeps-within : (P : Atoms → Ty → Type 0) (s : SemType) (at : Place) → Keeps (is_within passes P s at)
  keeps-within P s at = keeps-then _ _ (keeps-some _) (λ t. keeps-asking _)

  pub keeps-whether : (P : Atoms → Ty → Type 0) (s : SemType) (at : Place) → Keeps (whether_within passes P s at)
  keeps-whether P s at = keeps-then _ _ (keeps-some _) (λ t. keeps-asking _)

  pub keeps-whether-some : (P : Atoms → Ty → Type 0) (at : Place) → Keeps (whether_some passes P at)
  keeps-whether-some P at = keeps-then _ _ (keeps-some _) (λ t. keeps-asking _)

  pub keeps-is-of : (k : Kind) (at : Place) → Keeps (is_of passes k at)
  keeps-is-of k at = keeps-then _ _ (keeps-some _) (λ e. keeps-within _ _ at)

  pub keeps-below-if : (w : Option Shared) (e : TypedExpr) (at : Place) → Keeps (below_if passes w e at)
  keeps-below-if None e at = keeps-some _
  keeps-below-if (Some t) e at = keeps-asking _

  -- ---- operators and tests

  pub keeps-decided : (ints : Bool) (e : SemType) (at : Place) → Keeps (decided passes ints e at)
  keeps-decided true e at = keeps-some _
  keeps-decided false e at = keeps-within _ e at

  pub keeps-ways-if : (q : QualifiedName) (v : Option Variable) (t : Shared) (at : Place) → Keeps (ways_if passes q v t at)
  keeps-ways-if q None t at = keeps-some _
  keeps-ways-if q (Some v) t at =
      keeps-then _ _ keeps-flow-now (λ f. keeps-then _ _
      (keeps-then _ _ (keeps-some _) (λ y. keeps-then _ _ (keeps-asking _) (λ n. keeps-some _))) (λ types. keeps-some _))

  pub keeps-ways-of-test : (name : Option QualifiedName) (t : Shared) (at : Place) → Keeps (ways_of_test passes name t at)
  keeps-ways-of-test None t at = keeps-some _
  keeps-ways-of-test (Some q) t at = keeps-then _ _ keeps-flow-now (λ f. keeps-ways-if q _ t at)

  pub keeps-widens-to : (kinds : List Kind) (t : Shared) (at : Place) → Keeps (widens_to passes kinds t at)
  keeps-widens-to [] t at = keeps-some _
  keeps-widens-to (k ∷ kinds) t at = keeps-then _ _ (keeps-whether _ _ at) (λ b. keeps-either b _ _ (keeps-some _) (keeps-widens-to kinds t at))

  pub keeps-widened : (t : Shared) (at : Place) → Keeps (widened passes t at)
  keeps-widened t at = keeps-widens-to (kind.Integer ∷ kind.Text ∷ kind.Truth ∷ []) t at

  -- ---- members

  pub keeps-accessed-as : (a : Access) (at : Place) → Keeps (is_accessed_as passes a at)
  keeps-accessed-as a at = keeps-then _ _ (keeps-is-of _ at) (λ u. keeps-becomes _ (λ s. keeps-beside s _ refl))

  pub keeps-has-part : (P : Shape → Type 0) (at : Place) → Keeps (has_part passes P at)
  keeps-has-part P at = keeps-then _ _ (keeps-some _) (λ e. keeps-whether-some _ at)

  pub keeps-structure : (at : Place) → Keeps (is_structure passes at)
  keeps-structure at = keeps-then _ _ (keeps-has-part _ at) (λ b. keeps-either b _ _ (keeps-accessed-as Item at) (keeps-accessed-as Key at))

  pub keeps-accessed : (texts : Bool) (at : Place) → Keeps (is_accessed passes texts at)
  keeps-accessed true at = keeps-then _ _ (keeps-has-part _ at) (λ b. keeps-either b _ _ (keeps-accessed-as Char at) (keeps-structure at))
  keeps-accessed false at = keeps-structure at

  pub keeps-member-at : (t : SemType) (keys : MemberKeys) (at : Place) → Keeps (member_at passes t keys at)
  keeps-member-at t keys at = keeps-asking _

  pub keeps-some-member : (t : SemType) (keys : MemberKeys) (at : Place) → Keeps (some_member_at passes t keys at)
  keeps-some-member t keys at =
      keeps-then _ _ (keeps-member-at t keys at) (λ m. keeps-then _ _ (keeps-asking _) (λ b. keeps-then _ _ (keeps-unless b _ at) (λ u. keeps-some _)))

  pub keeps-reads : (a : Access) (at : Place) → Keeps (reads_element passes a at)
  keeps-reads Char at = keeps-makes 2 _
  keeps-reads Item at =
      keeps-then _ _ (keeps-some _) (λ p. keeps-then _ _ (keeps-asking _) (λ keys.
      keeps-then _ _ (keeps-some-member _ keys at) (λ m. keeps-makes 2 _)))
  keeps-reads Key at =
      keeps-then _ _ (keeps-some _) (λ p. keeps-then _ _ (keeps-asking _) (λ keys.
      keeps-then _ _ (keeps-member-at _ keys at) (λ m. keeps-makes 2 _)))

  pub keeps-field-type : (name : Text) (t : SemType) (at : Place) → Keeps (field_type passes name t at)
  keeps-field-type name t at =
      keeps-then _ _ (keeps-then _ _ (keeps-asking _) (λ atom. keeps-then _ _ (keeps-asking _) (λ b. keeps-unless b _ at)))
      (λ u. keeps-member-at t _ at)

  -- ---- constructors

  module _ (own : Ty → List Choice) (Fits : Atoms → Choice → Type 0) where
    pub keeps-first-fit : (all : List Choice) (at : Place) → Keeps (first_fit Fits all at)
    unfolding first_fit
    keeps-first-fit all at old new c (x, e) = keeps-same old new e

    pub keeps-chooses-by : (all : List Choice) (t : Ty) (at : Place) → Keeps (chooses_by passes own Fits all t at)
    keeps-chooses-by [] t at = keeps-then _ _ (keeps-whether _ _ at) (λ b. keeps-opens-constructor _)
    keeps-chooses-by (c ∷ cs) t at = keeps-then _ _ (keeps-first-fit _ at) (λ d. keeps-opens-constructor _)

    pub keeps-chooses-for : (w : Option Shared) (at : Place) → Keeps (chooses_for passes own Fits w at)
    keeps-chooses-for None at = keeps-opens-constructor _
    keeps-chooses-for (Some t) at = keeps-chooses-by _ t.value at

    pub keeps-constructor : (e : Expected) (at : Place) → Keeps (chooses_constructor passes own Fits e at)
    keeps-constructor expected.Nothing at = keeps-opens-constructor _
    keeps-constructor expected.Immutable at = keeps-opens-constructor _
    keeps-constructor expected.Wanted at = keeps-then _ _ (keeps-some _) (λ w. keeps-chooses-for w at)

  pub keeps-frozen : (e : TypedExpr) (at : Place) → Keeps (is_frozen passes e at)
  keeps-frozen e at = keeps-then _ _ (keeps-whether _ _ at) (λ b. keeps-unless b _ at)

  pub keeps-fits-field : (key : SemType) (e : TypedExpr) (at : Place) (f : FieldDef) → Keeps (fits_field passes key e at f)
  keeps-fits-field key e at f =
      keeps-then _ _ (keeps-asking _) (λ b.
      keeps-either b _ _ (keeps-then _ _ (keeps-some _) (λ t. keeps-asking _)) (keeps-some _))

  pub keeps-fits-fields : (key : SemType) (e : TypedExpr) (at : Place) (fields : List FieldDef) → Keeps (fits_fields passes key e at fields)
  keeps-fits-fields key e at [] = keeps-some _
  keeps-fits-fields key e at (f ∷ fields) = keeps-then _ _ (keeps-fits-field key e at f) (λ u. keeps-fits-fields key e at fields)

  pub keeps-fits-keys : (choice : Option ℕ) (key : Option Text) (at : Place) → Keeps (fits_keys passes choice key at)
  keeps-fits-keys None key at = keeps-some _
  keeps-fits-keys (Some atom) (Some key) at = keeps-some _
  keeps-fits-keys (Some atom) None at = keeps-then _ _ (keeps-some _) (λ p. keeps-then _ _ (keeps-some _) (λ fields. keeps-fits-fields _ _ at fields))

  pub keeps-may-stand : (c : ConstructorAtWork) (e : TypedExpr) (at : Place) → Keeps (may_stand passes c e at)
  keeps-may-stand c e at = keeps-either c.immutable _ _ (keeps-frozen e at) (keeps-some _)

  pub keeps-added-type : (choice : Option ℕ) (e : TypedExpr) (at : Place) → Keeps (added_type passes choice e at)
  keeps-added-type None e at = keeps-widened _ at
  keeps-added-type (Some atom) e at = keeps-some _

  pub keeps-adds-member : (c : ConstructorAtWork) (e : TypedExpr) (at : Place) → Keeps (adds_member passes c e at)
  keeps-adds-member c e at = keeps-then _ _ (keeps-added-type c.choice e at) (λ t. keeps-then _ _ (keeps-some _) (λ u. keeps-sets-constructor _))

  -- ---- calls

  pub keeps-seen-value : (seen : Seen) (at : Place) → Keeps (calls_seen_value passes seen at)
  keeps-seen-value seen at = keeps-then _ _ (keeps-seen seen at) (λ u. keeps-then _ _ (keeps-is-of kind.AnyFunction at) (λ v. keeps-opens-call _))

  pub keeps-called-meaning : (m : Meaning) (count : ℕ) (name at : Place) → Keeps (calls_meaning passes m count name at)
  keeps-called-meaning (meaning.Function f) count name at = keeps-function f count at
  keeps-called-meaning (meaning.TypeName t) count name at = keeps-fails _ name
  keeps-called-meaning (meaning.Constant t) count name at = keeps-seen-value (SeenMeaning (meaning.Constant t)) name
  keeps-called-meaning (meaning.Variable number final t) count name at = keeps-seen-value (SeenMeaning (meaning.Variable number final t)) name

  pub keeps-called : (started : Bool) (seen : Seen) (count : ℕ) (name at : Place) → Keeps (calls_seen passes started seen count name at)
  keeps-called started (SeenVariable v) count name at = keeps-seen-value (SeenVariable v) name
  keeps-called started (SeenWorker w) count name at = keeps-fails _ name
  keeps-called started (SeenConstant c) count name at = keeps-seen-value (SeenConstant c) name
  keeps-called started (SeenLibrary row) count name at = keeps-either started _ _ (keeps-fails _ name) (keeps-library row None count at)
  keeps-called started (SeenMeaning m) count name at = keeps-called-meaning m count name at
  keeps-called started (SeenNothing code) count name at = keeps-fails code name

  pub keeps-receiver : (takes : Takes) (e : TypedExpr) (at : Place) → Keeps (is_receiver passes takes e at)
  keeps-receiver None e at = keeps-some _
  keeps-receiver (Some k) e at = keeps-whether _ _ at

  pub keeps-picks : (rows : List LibraryRow) (e : TypedExpr) (at : Place) → Keeps (picks passes rows e at)
  keeps-picks [] e at = keeps-fails _ at
  keeps-picks (row ∷ rows) e at = keeps-then _ _ (keeps-receiver row.receiver e at) (λ b. keeps-either b _ _ (keeps-some _) (keeps-picks rows e at))

  pub keeps-pushed : (receiver : Option Shared) (at : Place) → Keeps (expects_pushed passes receiver at)
  keeps-pushed None at = keeps-some _
  keeps-pushed (Some t) at = keeps-then _ _ (keeps-member-at _ _ at) (λ m. keeps-wants-some _)

  pub keeps-of-library : (call : LibraryCall) (receiver : Option Shared) (takes : Takes) (at : Place) → Keeps (expects_of_library passes call receiver takes at)
  keeps-of-library Push receiver takes at = keeps-pushed receiver at
  keeps-of-library call receiver takes at = keeps-wants-kind takes

  pub keeps-expects-by : (c : Called) (n : ℕ) (at : Place) → Keeps (expects_by passes c n at)
  keeps-expects-by (OfFunction f) n at = keeps-wants-copy _
  keeps-expects-by OfValue n at = keeps-wants None
  keeps-expects-by (OfLibrary row receiver) n at = keeps-of-library row.call receiver _ at

  pub keeps-fits : (c : CallAtWork) (at : Place) → Keeps (argument_fits passes c at)
  keeps-fits c at =
      keeps-then _ _ (keeps-some _) (λ w. keeps-then _ _ (keeps-some _) (λ e. keeps-then _ _ (keeps-below-if w e at) (λ u. keeps-then _ _ (keeps-no-more 1) (λ v. keeps-sets-call _))))

  pub keeps-made : (call : LibraryCall) (receiver : Option Shared) (n : ℕ) (at : Place) → Keeps (makes_library passes call receiver n at)
  keeps-made Println receiver n at = keeps-gives n _ _ at
  keeps-made Print receiver n at = keeps-gives n _ _ at
  keeps-made Readln receiver n at = keeps-gives n _ _ at
  keeps-made FromString receiver n at = keeps-gives n _ _ at
  keeps-made Abs receiver n at = keeps-gives n _ _ at
  keeps-made ToString receiver n at = keeps-gives n _ _ at
  keeps-made Clone receiver n at = keeps-then _ _ (keeps-some _) (λ t. keeps-makes n _)
  keeps-made CloneReadOnly receiver n at = keeps-then _ _ (keeps-some _) (λ t. keeps-then _ _ (keeps-some _) (λ u. keeps-makes n _))
  keeps-made StringLength receiver n at = keeps-gives n _ _ at
  keeps-made StartsWith receiver n at = keeps-gives n _ _ at
  keeps-made Trim receiver n at = keeps-gives n _ _ at
  keeps-made Substring receiver n at = keeps-gives n _ _ at
  keeps-made ToUpperAscii receiver n at = keeps-gives n _ _ at
  keeps-made ToLowerAscii receiver n at = keeps-gives n _ _ at
  keeps-made ToCodePointInts receiver n at = keeps-lists n _ _ at
  keeps-made ListLength receiver n at = keeps-gives n _ _ at
  keeps-made Push receiver n at = keeps-gives n _ _ at
  keeps-made Pop receiver n at = keeps-then _ _ (keeps-some _) (λ t. keeps-then _ _ (keeps-member-at _ _ at) (λ m. keeps-gives n _ _ at))
  keeps-made RemoveItem receiver n at = keeps-then _ _ (keeps-some _) (λ t. keeps-then _ _ (keeps-member-at _ _ at) (λ m. keeps-gives n _ _ at))
  keeps-made Slice receiver n at = keeps-then _ _ (keeps-some _) (λ t. keeps-then _ _ (keeps-member-at _ _ at) (λ m. keeps-lists n _ _ at))
  keeps-made Reverse receiver n at = keeps-then _ _ (keeps-some _) (λ t. keeps-then _ _ (keeps-member-at _ _ at) (λ m. keeps-lists n _ _ at))
  keeps-made MappingLength receiver n at = keeps-gives n _ _ at
  keeps-made Keys receiver n at = keeps-lists n _ _ at
  keeps-made HasKey receiver n at = keeps-gives n _ _ at
  keeps-made Get receiver n at = keeps-then _ _ (keeps-some _) (λ t. keeps-then _ _ (keeps-member-at _ _ at) (λ m. keeps-gives n _ _ at))
  keeps-made RemoveKey receiver n at = keeps-then _ _ (keeps-some _) (λ t. keeps-then _ _ (keeps-member-at _ _ at) (λ m. keeps-gives n _ _ at))
  keeps-made Message receiver n at = keeps-gives n _ _ at
  keeps-made Cause receiver n at = keeps-gives n _ _ at
  keeps-made Detail receiver n at = keeps-gives n _ _ at

  pub keeps-applies : (all : List TypedExpr) (at : Place) → Keeps (applies_to passes all at)
  keeps-applies [] at = keeps-some _
  keeps-applies (f ∷ args) at = keeps-then _ _ (keeps-asking _) (λ atom. keeps-asking _)

  pub keeps-call-of : (c : Called) (n : ℕ) (at : Place) → Keeps (makes_call_of passes c n at)
  keeps-call-of (OfFunction f) n at = keeps-makes n _
  keeps-call-of OfValue n at = keeps-then _ _ (keeps-some _) (λ all. keeps-then _ _ (keeps-applies all at) (λ t. keeps-makes (suc n) _))
  keeps-call-of (OfLibrary row receiver) n at = keeps-made row.call receiver _ at

  pub keeps-starts-of : (c : Called) (n : ℕ) (here at : Place) → Keeps (starts_of passes c n here at)
  keeps-starts-of (OfFunction f) n here at = keeps-makes n _
  keeps-starts-of OfValue n here at =
      keeps-then _ _ (keeps-some _) (λ all. keeps-then _ _ (keeps-applies all here) (λ t. keeps-then _ _ (keeps-asking _) (λ atom. keeps-makes (suc n) _)))
  keeps-starts-of (OfLibrary row receiver) n here at = keeps-some _

  -- ---- names

  module _ (names : Names) where
    pub keeps-named : (q : QualifiedName) → Keeps (gives_named names q)
    keeps-named q = keeps-then _ _ (keeps-looks-up names q) (λ seen. keeps-seen seen q.at)

    pub keeps-awaits-by : (q : QualifiedName) (w : Option ℕ) → Keeps (awaits_by passes names q w)
    keeps-awaits-by q (Some w) = keeps-then _ _ (keeps-result w) (λ t. keeps-wants (Some t))
    keeps-awaits-by q None =
        keeps-then _ _ (keeps-named q) (λ u. keeps-then _ _ (keeps-is-of kind.AnyFuture q.at) (λ v. keeps-then _ _ (keeps-some _) (λ e.
        keeps-then _ _ (keeps-member-at _ _ q.at) (λ m. keeps-wants-some _))))
