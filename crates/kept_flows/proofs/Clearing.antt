-- Needs that make a part of which nothing is said.
use Rattle.std.proofs.Common.{Bool, List, None, Option, Some, ap, false, suc, true, ℕ, ◌≡◌}
use Rattle.bal_base.specs.declared.fault.Fault.{Fault}
use Rattle.bal_base.specs.declared.fault.FaultCode.{FaultCode}
use Rattle.bal_base.specs.declared.place.Place.{Place}
use Rattle.bal_tree.specs.declared.action.Peer.{Peer}
use Rattle.bal_tree.specs.declared.name.Literal.{Literal}
use Rattle.bal_tree.specs.declared.name.QualifiedName.{QualifiedName}
use Rattle.check_words.specs.Actions.{makes_message, message_to, receives, receives_as}
use Rattle.check_words.specs.Calls.{gives_by, lists_by, makes_call_of, makes_library, starts_of}
use Rattle.check_words.specs.Meets.{meets}
use Rattle.check_words.specs.Seen.{Seen, SeenConstant, SeenLibrary, SeenMeaning, SeenNothing, SeenVariable, SeenWorker}
use Rattle.check_words.specs.State.{Called, OfFunction, OfLibrary, OfValue, State}
use Rattle.check_words.specs.Values.{gives_meaning, gives_seen}
use Rattle.check_words.specs.Words.{Atoms, fails, makes}
use Rattle.checks.specs.Checks.{Check, Gives, gives_some, refuses, ◌▷◌}
use Rattle.descriptors.specs.declared.names.Meaning.TheVariants as meaning
use Rattle.descriptors.specs.declared.names.Meaning.{Meaning}
use Rattle.descriptors.specs.declared.names.Names.{Names}
use Rattle.expr_needs.specs.Needs.{Flushes, GivesLiteral, GivesNamed, MakesCall, MakesList, MakesMapping, Need, Receives, Starts, WaitsForAll, WaitsForAny}
use Rattle.expr_needs.specs.declared.expected.Expected.TheVariants as expected
use Rattle.expr_needs.specs.declared.expected.Expected.{Expected}
use Rattle.needs.specs.Needs.{does}
use Rattle.operations.specs.declared.library.LibraryCall.TheVariants.{Abs, Cause, Clone, CloneReadOnly, Detail, FromString, Get, HasKey, Keys, ListLength, MappingLength, Message, Pop, Print, Println, Push, Readln, RemoveItem, RemoveKey, Reverse, Slice, StartsWith, StringLength, Substring, ToCodePointInts, ToLowerAscii, ToString, ToUpperAscii, Trim}
use Rattle.operations.specs.declared.library.LibraryCall.{LibraryCall}
use Rattle.type_model.specs.Calls.{Asked}
use Rattle.type_model.specs.declared.answers.TypeLimit.{TypeLimit}
use Rattle.type_model.specs.declared.atoms.AtomDef.{AtomDef}
use Rattle.type_model.specs.declared.basic.Ty.{Ty}
use Rattle.typed_tree.specs.SharedTypes.{Shared}
use Rattle.typed_tree.specs.declared.event.SeenEvent.{SeenEvent}
use Rattle.typed_tree.specs.declared.expr.TypedExpr.{TypedExpr}
use Rattle.typed_tree.specs.declared.form.StrictForm.{StrictForm}

abbrev pub Clears : {A : Type 0} → Check State A → Type 0
Clears {A} m = (old new : State) (a : A) → m old (Gives a) new → new.ways ≡ None

-- ---- checks

clears-then : {A B : Type 0} (m : Check State A) (next : A → Check State B) → ((a : A) → Clears (next a)) → Clears (m ▷ next)
unfolding ◌▷◌
clears-then m next f old new b (a, mid, x, y) = f a mid new b y

clears-makes : (count : ℕ) (P : Atoms → List TypedExpr → TypedExpr → Type 0) → Clears (makes count P)
unfolding does
clears-makes count P old new a (parts, last, e, x, is) = ap (λ (s : State). s.ways) is

clears-refuses : {A : Type 0} (P : State → Fault → Type 0) → Clears (refuses {S = State} {A = A} P)
unfolding refuses
clears-refuses P old new a x = absurd x

clears-fails : {A : Type 0} (code : FaultCode) (at : Place) → Clears (fails {A = A} code at)
clears-fails code at = clears-refuses _

clears-never : {A : Type 0} → Clears (gives_some {S = State} {A = A} (λ s u. ⊥))
unfolding gives_some
clears-never old new a (x, e) = absurd x

-- ---- names and actions

clears-meaning : (m : Meaning) (at : Place) → Clears (gives_meaning m at)
clears-meaning (meaning.TypeName t) at = clears-fails _ at
clears-meaning (meaning.Constant t) at = clears-then _ _ (λ c. clears-makes 0 _)
clears-meaning (meaning.Variable number final t) at = clears-makes 0 _
clears-meaning (meaning.Function f) at = clears-makes 0 _

clears-seen : (seen : Seen) (at : Place) → Clears (gives_seen seen at)
clears-seen (SeenVariable v) at = clears-then _ _ (λ u. clears-makes 0 _)
clears-seen (SeenWorker w) at = clears-fails _ at
clears-seen (SeenConstant c) at = clears-makes 0 _
clears-seen (SeenLibrary call) at = clears-fails _ at
clears-seen (SeenMeaning m) at = clears-meaning m at
clears-seen (SeenNothing code) at = clears-fails _ at

clears-receives-as : (w : Option Shared) (peer : Peer) (at : Place) → Clears (receives_as w peer at)
clears-receives-as None peer at = clears-fails _ at
clears-receives-as (Some t) peer at = clears-then _ _ (λ p. clears-makes 0 _)

clears-receives : (e : Expected) (peer : Peer) (at : Place) → Clears (receives e peer at)
clears-receives expected.Nothing peer at = clears-receives-as None peer at
clears-receives expected.Immutable peer at = clears-receives-as None peer at
clears-receives expected.Wanted peer at = clears-then _ _ (λ w. clears-receives-as w peer at)

clears-message : (may_fail : Bool) (count : ℕ) (form : StrictForm) (peer : ℕ) (at : Place) → Clears (makes_message may_fail count form peer at)
clears-message false count form peer at = clears-makes count _
clears-message true count form peer at = clears-then _ _ (λ t. clears-makes count _)

clears-message-to : (fails_by : ℕ → ℕ → List SeenEvent → Bool) (count : ℕ) (form : StrictForm) (peer : Option ℕ) (at : Place) → Clears (message_to fails_by count form peer at)
clears-message-to fails_by count form None at = clears-makes count _
clears-message-to fails_by count form (Some peer) at = clears-then _ _ (λ site. clears-then _ _ (λ u. clears-message _ count form peer at))

-- ---- calls

clears-gives : (n : ℕ) (call : LibraryCall) (P : Atoms → Ty → Type 0) (at : Place) → Clears (gives_by n call P at)
clears-gives n call P at = clears-makes n _

clears-lists : (n : ℕ) (call : LibraryCall) (P : Atoms → Ty → Type 0) (at : Place) → Clears (lists_by n call P at)
clears-lists n call P at = clears-then _ _ (λ atom. clears-makes n _)

module _ (passes : List AtomDef → Asked → TypeLimit → Type 0) where
  clears-made : (call : LibraryCall) (receiver : Option Shared) (n : ℕ) (at : Place) → Clears (makes_library passes call receiver n at)
  clears-made Println receiver n at = clears-gives n _ _ at
  clears-made Print receiver n at = clears-gives n _ _ at
  clears-made Readln receiver n at = clears-gives n _ _ at
  clears-made FromString receiver n at = clears-gives n _ _ at
  clears-made Abs receiver n at = clears-gives n _ _ at
  clears-made ToString receiver n at = clears-gives n _ _ at
  clears-made Clone receiver n at = clears-then _ _ (λ t. clears-makes n _)
  clears-made CloneReadOnly receiver n at = clears-then _ _ (λ t. clears-then _ _ (λ u. clears-makes n _))
  clears-made StringLength receiver n at = clears-gives n _ _ at
  clears-made StartsWith receiver n at = clears-gives n _ _ at
  clears-made Trim receiver n at = clears-gives n _ _ at
  clears-made Substring receiver n at = clears-gives n _ _ at
  clears-made ToUpperAscii receiver n at = clears-gives n _ _ at
  clears-made ToLowerAscii receiver n at = clears-gives n _ _ at
  clears-made ToCodePointInts receiver n at = clears-lists n _ _ at
  clears-made ListLength receiver n at = clears-gives n _ _ at
  clears-made Push receiver n at = clears-gives n _ _ at
  clears-made Pop receiver n at = clears-then _ _ (λ t. clears-then _ _ (λ m. clears-gives n _ _ at))
  clears-made RemoveItem receiver n at = clears-then _ _ (λ t. clears-then _ _ (λ m. clears-gives n _ _ at))
  clears-made Slice receiver n at = clears-then _ _ (λ t. clears-then _ _ (λ m. clears-lists n _ _ at))
  clears-made Reverse receiver n at = clears-then _ _ (λ t. clears-then _ _ (λ m. clears-lists n _ _ at))
  clears-made MappingLength receiver n at = clears-gives n _ _ at
  clears-made Keys receiver n at = clears-lists n _ _ at
  clears-made HasKey receiver n at = clears-gives n _ _ at
  clears-made Get receiver n at = clears-then _ _ (λ t. clears-then _ _ (λ m. clears-gives n _ _ at))
  clears-made RemoveKey receiver n at = clears-then _ _ (λ t. clears-then _ _ (λ m. clears-gives n _ _ at))
  clears-made Message receiver n at = clears-gives n _ _ at
  clears-made Cause receiver n at = clears-gives n _ _ at
  clears-made Detail receiver n at = clears-gives n _ _ at

  clears-call-of : (c : Called) (n : ℕ) (at : Place) → Clears (makes_call_of passes c n at)
  clears-call-of (OfFunction f) n at = clears-makes n _
  clears-call-of OfValue n at = clears-then _ _ (λ all. clears-then _ _ (λ t. clears-makes (suc n) _))
  clears-call-of (OfLibrary row receiver) n at = clears-made row.call receiver _ at

  clears-starts-of : (c : Called) (n : ℕ) (here at : Place) → Clears (starts_of passes c n here at)
  clears-starts-of (OfFunction f) n here at = clears-makes n _
  clears-starts-of OfValue n here at = clears-then _ _ (λ all. clears-then _ _ (λ t. clears-then _ _ (λ atom. clears-makes (suc n) _)))
  clears-starts-of (OfLibrary row receiver) n here at = clears-never

  -- ---- needs

  module _ (names : Names) where
    abbrev pub ClearsNeed : Need → Type 0
    ClearsNeed need = Clears (meets passes names need)

    pub literal-clears : (l : Literal) → ClearsNeed (GivesLiteral l)
    literal-clears l = clears-makes 0 _

    pub named-clears : (q : QualifiedName) → ClearsNeed (GivesNamed q)
    named-clears q = clears-then _ _ (λ seen. clears-seen seen q.at)

    pub call-clears : (at : Place) → ClearsNeed (MakesCall at)
    call-clears at = clears-then _ _ (λ c. clears-call-of c.callee c.args at)

    pub starts-clears : (here at : Place) → ClearsNeed (Starts here at)
    starts-clears here at = clears-then _ _ (λ c. clears-starts-of c.callee c.args here at)

    pub list-clears : (count : ℕ) (at : Place) → ClearsNeed (MakesList count at)
    list-clears count at = clears-then _ _ (λ c. clears-then _ _ (λ atom. clears-makes count _))

    pub mapping-clears : (count : ℕ) (at : Place) → ClearsNeed (MakesMapping count at)
    mapping-clears count at = clears-then _ _ (λ c. clears-then _ _ (λ atom. clears-makes _ _))

    pub any-clears : (qs : List QualifiedName) (at : Place) → ClearsNeed (WaitsForAny qs at)
    any-clears qs at = clears-then _ _ (λ site. clears-then _ _ (λ ts. clears-makes _ _))

    pub all-clears : (qs : List QualifiedName) (at : Place) → ClearsNeed (WaitsForAll qs at)
    all-clears qs at = clears-then _ _ (λ site. clears-then _ _ (λ c. clears-then _ _ (λ ts. clears-then _ _ (λ atom. clears-makes _ _))))

    pub receives-clears : (e : Expected) (peer : Peer) (at : Place) → ClearsNeed (Receives e peer at)
    receives-clears e peer at = clears-receives e peer at

    pub flushes-clears : (peer : Peer) (at : Place) → ClearsNeed (Flushes peer at)
    flushes-clears peer at = clears-then _ _ (λ p. clears-message-to _ 0 _ p at)
