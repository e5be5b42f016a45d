-- What a call of an operation of natives asks, and what it answers.
use Rattle.std.specs.Prelude.{◌≡◌, ◌⊎◌, ◌<◌, ℕ, List, [], ◌∷◌, Option, Some, None, All, Any, IsFalse, Contains, length, slice_get, ⊤}
use Rattle.std.specs.List.{AllZip}
use Rattle.bal_base.specs.declared.shape.Shape.{Shape}
use Rattle.bal_base.specs.Valid.{IsValid}
use Rattle.bal_io.specs.Content.{IsPrefixOf}
use Rattle.type_model.specs.declared.basic.SemType.{SemType}
use Rattle.type_model.specs.declared.atoms.AtomDef.{AtomDef}
use Rattle.value_model.specs.declared.value.Value.{Value}
use Rattle.value_model.specs.declared.value.Value.TheVariants.{Struct, Error, Future}
use Rattle.value_model.specs.declared.native.Native.{Native}
use Rattle.value_model.specs.declared.native.Native.TheVariants.{Value as GivesValue, Panic as PanicsWith}
use Rattle.value_model.specs.declared.native.NativeFault.{NativeFault}
use Rattle.value_model.specs.declared.native.NativeFault.TheVariants.{Input, Output, Cells}
use Rattle.value_model.specs.Heap.{Heap, Structure, IsThere, IsClosed, Grows, values_of}
use Rattle.value_model.specs.Stands.{OwnTypes, Belongs, HasShape}
use Rattle.value_model.specs.Table.{TestTable, own_types, Serves, KnowsValue}
use Rattle.value_model.specs.Valid.{IsValidHeap, IsValidValue}
use Rattle.value_model.specs.World.{World, Came, Gave, Threw, PassesCells}

-- the table of the operations: over these atoms, an operation, with the atom of the list that it makes or 0, takes
-- arguments of these types and gives a result of this type
abbrev pub Takes : Type 1
Takes = List AtomDef → ℕ → ℕ → List SemType → SemType → Type 0

-- what the operations come to
abbrev pub Answers : Type 1
Answers = OwnTypes → ℕ → ℕ → List Value → World → Came → Type 0

-- what an object of the outside may hold, as far as it tells
abbrev pub MayHold : Option (List ℕ) → List ℕ → Type 0
MayHold None bytes = ⊤
MayHold (Some told) bytes = bytes ≡ told

-- ---- what a call asks

-- the operation takes arguments of these types, and the arguments belong to them
pub record TakesArguments (takes : Takes) (t : TestTable) (h : Heap) (op atom : ℕ) (args : List Value) (params : List SemType) (result : SemType) : Type 0 where
  pub known : takes t.atoms op atom params result
  pub belong : AllZip (Belongs (own_types t) h) args params

abbrev pub IsTaken : Takes → TestTable → Heap → ℕ → ℕ → List Value → Type 0
IsTaken takes t h op atom args = (params : List SemType) × (result : SemType) × TakesArguments takes t h op atom args params result

-- the table of tests serves the heap and the arguments
pub record IsServed (t : TestTable) (h : Heap) (atom : ℕ) (args : List Value) : Type 0 where
  pub heap : Serves t h
  pub arguments : All (KnowsValue t h) args
  pub made : (atom ≡ 0) ⊎ Contains t.inherent atom
  pub closed : IsClosed h
  pub there : All (IsThere h) args

-- ---- what a call answers

-- what it came to, as an answer
abbrev pub answered : Native → World → Came
answered (GivesValue v) w = Gave (v ∷ []) w
answered (PanicsWith e) w = Threw e w

abbrev pub value_in : Native → Value
value_in (GivesValue v) = v
value_in (PanicsWith e) = e

-- the value belongs to each type that the operation's result may have
abbrev pub BelongsToResult : Takes → TestTable → Heap → ℕ → ℕ → List Value → Heap → Native → Type 0
BelongsToResult takes t old op atom args new (GivesValue v) =
    (params : List SemType) (result : SemType) → TakesArguments takes t old op atom args params result → Belongs (own_types t) new v result
BelongsToResult takes t old op atom args new (PanicsWith e) = (n : ℕ) × (e ≡ Error n)

-- the call comes to this from some content that the objects may hold to some content that they may then hold
abbrev pub ComesTo : Answers → OwnTypes → ℕ → ℕ → List Value → (before after : World → Type 0) → (World → Came) → Type 0
ComesTo answers own op atom args before after came =
    (w v : World) × before w × after v × answers own op atom args w (came v)

-- a world with this heap, and with what the objects tell
abbrev pub IsWorldOf : Heap → Option (List ℕ) → Option (List ℕ) → World → Type 0
IsWorldOf h input output w = (w.heap ≡ h) × MayHold input w.input × MayHold output w.output

-- each immutable structure and each error has a shape: so they hold only immutable anydata, and have no cycle
abbrev pub HasShapes : Heap → Type 0
HasShapes h =
    ((n : ℕ) (s : Structure) → slice_get h.structures n ≡ Some s → IsFalse s.mutable → (x : Shape) × IsValid x × HasShape h x (Struct n))
    × ((n : ℕ) → n < length h.errors → (x : Shape) × IsValid x × HasShape h x (Error n))

-- the value is a member of a structure, or is captured by a function
abbrev pub Holds : Heap → Value → Type 0
Holds h v = Any (λ s. Contains (values_of s.members) v) h.structures ⊎ Any (λ f. Contains f.captured v) h.functions

-- after the call all is still there, no function and no future is new, the table serves the heap and the answer, and what
-- is there then is valid where it was before
pub record Keeps (t : TestTable) (old new : Heap) (args : List Value) (answer : Value) : Type 0 where
  pub grows : Grows old new
  pub functions : new.functions ≡ old.functions
  pub serves : Serves t new
  pub known : KnowsValue t new answer
  pub closed : IsClosed new
  pub there : IsThere new answer
  pub shapes : HasShapes old → HasShapes new
  pub valid : IsValidHeap old → All IsValidValue args → IsValidHeap new × IsValidValue answer
  pub futures : (strand unit : ℕ) → Holds new (Future strand unit) ⊎ (answer ≡ Future strand unit) → Holds old (Future strand unit) ⊎ Contains args (Future strand unit)

-- a fault of an object comes only where its count rose
abbrev pub HasCause : (input_rose output_rose passes : Type 0) → NativeFault → Type 0
HasCause input_rose output_rose passes Input = input_rose
HasCause input_rose output_rose passes Output = output_rose
HasCause input_rose output_rose passes Cells = passes

-- what was written when a call failed: a first part of what it writes where it doesn't fail
abbrev pub output_of : World → Came → List ℕ
output_of w (Gave vs v) = v.output
output_of w (Threw e v) = v.output
output_of w PassesCells = w.output

abbrev pub WritesFront : Answers → OwnTypes → ℕ → ℕ → List Value → Heap → (input old new : Option (List ℕ)) → Type 0
WritesFront answers own op atom args h input old new =
    (w : World) × (came : Came) × (front : List ℕ) × IsWorldOf h input old w × answers own op atom args w came
    × MayHold new front × IsPrefixOf w.output front × IsPrefixOf front (output_of w came)
