-- What each step of well-typed code keeps, as laws.
use Rattle.std.specs.Prelude.{◌≡◌, ◌≢◌, ℕ, List, [], ◌∷◌, Option, Some, length}
use Rattle.bal_base.specs.declared.text.Text.{Text}
use Rattle.operations.specs.declared.library.LibraryCall.{LibraryCall}
use Rattle.operations.specs.declared.operation.Operation.TheVariants as op
use Rattle.value_model.specs.declared.filler.Filler.{Filler}
use Rattle.value_model.specs.Heap.{IsClosed}
use Rattle.value_model.specs.Meaning.{Answers}
use Rattle.op_model.specs.Common.{Common}
use Rattle.op_model.specs.ProgramFacts.{KnowsFillers}
use Rattle.op_model.specs.Library.{LibraryAnswers}
use Rattle.machine_model.specs.Keeping.{Invariant, IsKept}
use Rattle.machine_model.specs.Machine.{Frame, State, Step}
use Rattle.machine_model.specs.Runs.{AreWords, IsReached, Phase, Running, start}
use Rattle.machine_model.specs.Strands.{StrandsHold}
use Rattle.stack_code.specs.declared.code.Code.{Code}
use Rattle.stack_code.specs.CodeMachine.{Standing, code_facts, codes}
use Rattle.stack_code.specs.Commands.{Do, command_at}
use Rattle.stack_code.specs.Good.{Good, code_invariant}
use Rattle.stack_code.specs.Places.{stack_at}
use Rattle.stack_code.specs.Values.{IsMadeError, StackFits}
use Rattle.stack_code.specs.WellTyped.{WellTyped}
use Rattle.code_keeping.specs.Laws.{AskComes, IsDoneAt}
use Rattle.code_keeping.specs.Rows.{Comes}

-- what holds of each state, where an error that is thrown is one of a closed heap
abbrev pub kept_invariant : Code → Invariant Standing
kept_invariant code = record (code_invariant code) { throws = λ c e. IsClosed c.world.heap × IsMadeError code c e }

-- what a frame of the code asks for where it calls the library fits, and something comes
abbrev pub LibraryIsDone : (ℕ → List Filler) → Answers → Code → Type 0
LibraryIsDone fillers natives code = (c : Common) (call : LibraryCall) (atom : Option ℕ) (count : ℕ) → IsDoneAt fillers natives code c (op.Library call atom count)

-- the fillers are those of the places of the code's inherent atoms, as an exact table of tests has them
abbrev pub FillersAreKnown : (ℕ → List Filler) → Code → Type 0
FillersAreKnown fillers code = KnowsFillers (code_facts fillers code) code.inherent

-- then each step keeps what is to hold
abbrev pub CodeIsKept : Answers → Type 0
CodeIsKept natives =
    (fillers : ℕ → List Filler) (code : Code) → WellTyped code → FillersAreKnown fillers code → LibraryIsDone fillers natives code →
    IsKept natives (codes fillers code) (kept_invariant code)

-- each state that is reached is good, and what holds of the strands of machines holds of it
abbrev pub ReachedCodeIsGood : Answers → Type 0
ReachedCodeIsGood natives =
    (fillers : ℕ → List Filler) (code : Code) → WellTyped code → FillersAreKnown fillers code → LibraryIsDone fillers natives code →
    (words : List Text) (input : List ℕ) (ticks : ℕ) (phase : Phase) (s : State Standing) → AreWords words →
    IsReached natives (codes fillers code) words input ticks phase s → Good code phase s × StrandsHold natives (codes fillers code) phase s

-- the last frame of the strand that runs is not stuck: it goes on by itself, or something comes of what it asks for
abbrev pub CodeGoesOn : Answers → Type 0
CodeGoesOn natives =
    (fillers : ℕ → List Filler) (code : Code) → WellTyped code → FillersAreKnown fillers code → LibraryIsDone fillers natives code →
    (words : List Text) (input : List ℕ) (ticks : ℕ) (s : State Standing) (f : Frame Standing) (fs : List (Frame Standing)) → AreWords words →
    IsReached natives (codes fillers code) words input ticks Running s → s.frames ≡ f ∷ fs →
    AskComes natives (code_facts fillers code) s.common (length (f ∷ fs)) f ((codes fillers code).look f.unit f.control)

-- nothing is asked of code that doesn't call the library
abbrev pub HasNoCalls : Code → Type 0
HasNoCalls code = (p : ℕ) (call : LibraryCall) (atom : Option ℕ) (count : ℕ) → command_at code p ≢ Some (Do (op.Library call atom count))

abbrev pub CallsAreNotThere : Answers → Type 0
CallsAreNotThere natives = (fillers : ℕ → List Filler) (code : Code) → HasNoCalls code → LibraryIsDone fillers natives code

-- ---- where the library answers as its table says

-- nothing is asked of any well-typed code
abbrev pub LibraryCallsAreDone : Type 0
LibraryCallsAreDone = (fillers : ℕ → List Filler) (code : Code) → WellTyped code → LibraryIsDone fillers LibraryAnswers code

-- ---- no state that is reached is stuck

-- the operands of the frame are values of the static types of its place
abbrev pub HasTypedOperands : Code → Common → Frame Standing → Type 0
HasTypedOperands code c f = StackFits code c f.control.local.stack (stack_at code f.control.place)

-- there is a last frame: its operands are of their static types, and it goes on by itself, or something comes of what it asks for
abbrev pub GoesOnTyped : Answers → (ℕ → List Filler) → Code → Common → List (Frame Standing) → Type 0
GoesOnTyped natives fillers code c [] = ⊥
GoesOnTyped natives fillers code c (f ∷ fs) =
    HasTypedOperands code c f × AskComes natives (code_facts fillers code) c (length (f ∷ fs)) f ((codes fillers code).look f.unit f.control)

-- it can't be that the state has no next one
abbrev pub HasNext : Answers → (ℕ → List Filler) → Code → State Standing → Type 0
HasNext natives fillers code s = Comes (Step natives (codes fillers code) s)

-- the state is good; and while a strand runs its last frame goes on, and the state has a next one
abbrev pub IsSafe : Answers → (ℕ → List Filler) → Code → Phase → State Standing → Type 0
IsSafe natives fillers code phase s = Good code phase s × (phase ≡ Running → GoesOnTyped natives fillers code s.common s.frames × HasNext natives fillers code s)

-- each state that a run of well-typed code reaches is safe, under any order
abbrev pub WellTypedCodeIsSafe : Type 0
WellTypedCodeIsSafe =
    (fillers : ℕ → List Filler) (code : Code) → WellTyped code → FillersAreKnown fillers code →
    (words : List Text) (input : List ℕ) (ticks : ℕ) → AreWords words →
    (phase : Phase) (s : State Standing) → IsReached LibraryAnswers (codes fillers code) words input ticks phase s → IsSafe LibraryAnswers fillers code phase s

-- and each run begins: there is a state before the first pick
abbrev pub WellTypedCodeBegins : Type 0
WellTypedCodeBegins =
    (fillers : ℕ → List Filler) (code : Code) → WellTyped code → (words : List Text) (input : List ℕ) (ticks : ℕ) →
    (s : State Standing) × (start (codes fillers code) words input ticks ≡ Some s)
