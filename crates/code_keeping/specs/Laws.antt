-- What steps of well-typed code keep, as laws.
use Rattle.std.specs.Prelude.{◌≡◌, ◌⊎◌, ◌<◌, ◌+◌, ℕ, Bool, List, [], ◌∷◌, Option, Some, IsTrue, length, slice_get, ⊤}
use Rattle.bal_base.specs.declared.text.Text.{Text}
use Rattle.type_model.specs.declared.basic.SemType.{SemType}
use Rattle.operations.specs.declared.operation.Constant.{Constant}
use Rattle.operations.specs.declared.operation.Operation.{Operation}
use Rattle.operations.specs.declared.operation.Operation.TheVariants as op
use Rattle.operations.specs.Talk.{Talk, NoTalk, Receives, Sends, talk_of}
use Rattle.operations.specs.Typing.{OpTyped}
use Rattle.operations.specs.Rows.{IsWithin, Surroundings}
use Rattle.value_model.specs.declared.filler.Filler.{Filler}
use Rattle.value_model.specs.declared.value.Value.{Value}
use Rattle.value_model.specs.Heap.{IsClosed}
use Rattle.value_model.specs.Meaning.{Answers}
use Rattle.value_model.specs.Table.{Serves, TestTable, table_of}
use Rattle.op_model.specs.Common.{Common, Role, End, Returned, Panicked}
use Rattle.op_model.specs.ProgramFacts.{ProgramFacts}
use Rattle.op_model.specs.Local.{Local, acts, takes}
use Rattle.op_model.specs.Messages.{one_sent, with_received}
use Rattle.op_model.specs.Performs.{Performs}
use Rattle.op_model.specs.Strands.{channel_at, settled, with_channel, worker_end}
use Rattle.machine_model.specs.Following.{EndsFrame}
use Rattle.machine_model.specs.Keeping.{AreApart, AskFits, Caught, IsKept}
use Rattle.machine_model.specs.Machine.{Ask, Does, Frame, On, State, Stuck, goes_to}
use Rattle.machine_model.specs.Runs.{AreWords, IsReached, Phase, Picking, Running, start}
use Rattle.machine_model.specs.Strands.{StrandsHold}
use Rattle.stack_code.specs.declared.code.Code.{Code}
use Rattle.stack_code.specs.declared.code.Unit.{Unit as CodeUnit}
use Rattle.stack_code.specs.CodeMachine.{Standing, code_facts, codes}
use Rattle.stack_code.specs.Commands.{CloseTrap, Command, Do, GoTo, GoToIfNot, OpenTrap, command_at}
use Rattle.stack_code.specs.Flow.{tally_then}
use Rattle.stack_code.specs.Frames.{AwaitsResult, TallyIs, TopFits}
use Rattle.stack_code.specs.Activations.{FitsBehind, GoodActivations}
use Rattle.stack_code.specs.Good.{Good, GoodCommon, IsLater, NearlyCommon, code_invariant}
use Rattle.stack_code.specs.Messages.{IsLast}
use Rattle.stack_code.specs.Places.{IsIn, IsStation, Station, stack_at, surroundings, tally_at, traps_at}
use Rattle.stack_code.specs.Tables.{UnitAt}
use Rattle.stack_code.specs.Values.{Fits, GoodHeap, IsMadeError, code_types}
use Rattle.stack_code.specs.WellTyped.{WellTyped}
use Rattle.code_keeping.specs.Kinds.{Kind, kind_of, value_kind}
use Rattle.code_keeping.specs.Rows.{Comes, NamesWell, RowComes, RowKeeps}

-- ---- how a run begins

-- the state before the first pick is good, where the words of the run are texts
abbrev pub StartsWell : Type 0
StartsWell =
    (code : Code) (fillers : ℕ → List Filler) (words : List Text) (input : List ℕ) (ticks : ℕ) (s : State Standing) →
    WellTyped code → AreWords words → start (codes fillers code) words input ticks ≡ Some s → Good code Picking s

-- ---- what a frame does by itself

-- constants, slots that are loaded and stored, operands that are dropped, jumps, branches and traps: it fits where it goes on
abbrev pub GoesOnByItself : Type 0
GoesOnByItself =
    (code : Code) (fillers : ℕ → List Filler) (c : Common) (f : Frame Standing) (next : Standing) →
    WellTyped code → IsClosed c.world.heap → TopFits code c f → (codes fillers code).look f.unit f.control ≡ On next → TopFits code c (goes_to f next)

-- it goes on by itself, and fits there
abbrev pub GoesOn : Code → (ℕ → List Filler) → Common → Frame Standing → Type 0
GoesOn code fillers c f = (next : Standing) × ((codes fillers code).look f.unit f.control ≡ On next) × TopFits code c (goes_to f next)

-- and is never stuck, at a place with such a command
abbrev pub IsNeverStuck : Code → (ℕ → List Filler) → Common → Frame Standing → Type 0
IsNeverStuck code fillers c f =
    let At : Command → Type 0 = λ command. command_at code f.control.place ≡ Some command → GoesOn code fillers c f in
    ((k : Constant) → At (Do (op.Const k))) × ((slot : ℕ) → At (Do (op.Store slot))) × At (Do op.Pop) × ((to : ℕ) → At (GoTo to)) × ((to : ℕ) → At (GoToIfNot to)) × ((to : ℕ) → At (OpenTrap to)) × At CloseTrap

abbrev pub NeverStuck : Type 0
NeverStuck =
    (code : Code) (fillers : ℕ → List Filler) (c : Common) (f : Frame Standing) → WellTyped code → GoodCommon code c Running → TopFits code c f → IsNeverStuck code fillers c f

-- ---- operands

-- operands in types all of whose shapes are of some kinds are of one of these kinds
abbrev pub OperandsAreOfKinds : Type 0
OperandsAreOfKinds =
    (code : Code) (c : Common) (v : Value) (s : SemType) (among : Kind → Bool) →
    WellTyped code → GoodHeap code c → Fits code c v s → IsWithin code.atoms (λ x. IsTrue (among (kind_of x))) s → IsTrue (among (value_kind c.world.heap v))

-- ---- what it asks for

-- what a frame of the code asks for fits, at a place with this operation, whatever comes
abbrev pub AsksWellAt : (ℕ → List Filler) → Answers → Code → Common → Operation → Type 0
AsksWellAt fillers natives code c o =
    (depth : ℕ) (f : Frame Standing) →
    GoodCommon code c Running → TopFits code c f → command_at code f.control.place ≡ Some (Do o) →
    AskFits natives (codes fillers code) (code_invariant code) c depth f ((codes fillers code).look f.unit f.control)

-- in each code
abbrev pub AsksWell : (ℕ → List Filler) → Answers → Operation → Type 0
AsksWell fillers natives o = (code : Code) (c : Common) → WellTyped code → AsksWellAt fillers natives code c o

-- an operation that takes all its operands and says nothing to workers: a panic is caught where a trap is open
abbrev pub TakesAll : Operation → Type 0
TakesAll o =
    (code : Code) (place : Surroundings) (operands : List SemType) (result : Option SemType) → OpTyped code.atoms place o operands result →
    (captured : List ℕ) (l : Local) → acts captured o l ≡ takes o l (length operands)

-- each row of an operation, where it stands in a unit of the code
abbrev pub EachRow : Code → Operation → (Surroundings → Type 0) → Type 0
EachRow code o Row = (u : CodeUnit) (station : Station) → NamesWell code o → Row (surroundings code u station)

abbrev pub StrictOperationsKeep : Answers → Type 0
StrictOperationsKeep natives =
    (fillers : ℕ → List Filler) (code : Code) (c : Common) (o : Operation) → WellTyped code → talk_of o ≡ NoTalk → (¬ (EndsFrame o)) → TakesAll o →
    EachRow code o (λ place. RowKeeps code fillers natives c place o) → AsksWellAt fillers natives code c o

-- ---- that something comes

-- it can't be that nothing comes of what is asked for
abbrev pub AskComes : Answers → ProgramFacts → Common → ℕ → Frame Standing → Ask Standing → Type 0
AskComes natives facts c depth f (On next) = ⊤
AskComes natives facts c depth f (Does o vs k) = Comes (Performs facts natives o vs (record { unit = f.unit; role = f.role; depth = depth }) c)
AskComes natives facts c depth f Stuck = ⊥

abbrev pub AskedComes : (ℕ → List Filler) → Answers → Code → Common → Operation → Type 0
AskedComes fillers natives code c o =
    (depth : ℕ) (f : Frame Standing) →
    GoodCommon code c Running → TopFits code c f → command_at code f.control.place ≡ Some (Do o) →
    AskComes natives (code_facts fillers code) c depth f ((codes fillers code).look f.unit f.control)

abbrev pub StrictOperationsCome : Answers → Type 0
StrictOperationsCome natives =
    (fillers : ℕ → List Filler) (code : Code) (c : Common) (o : Operation) → WellTyped code → TakesAll o →
    EachRow code o (λ place. RowComes code fillers natives c place o) → AskedComes fillers natives code c o

-- ---- operations by families

-- what a frame asks for with the operation fits, whatever comes, and something comes
abbrev pub IsDoneAt : (ℕ → List Filler) → Answers → Code → Common → Operation → Type 0
IsDoneAt fillers natives code c o = AsksWellAt fillers natives code c o × AskedComes fillers natives code c o

abbrev pub IsDone : (ℕ → List Filler) → Answers → Operation → Type 0
IsDone fillers natives o = (code : Code) (c : Common) → WellTyped code → IsDoneAt fillers natives code c o

-- those on ints and strings: they give one, or panic
abbrev pub NumbersAndTextsAreDone : Answers → Type 0
NumbersAndTextsAreDone natives =
    (fillers : ℕ → List Filler) → let Done = IsDone fillers natives in
    Done op.Add × Done op.Subtract × Done op.Multiply × Done op.Divide × Done op.Remainder × Done op.Negate × Done op.Concat × Done op.GetChar

-- those that tell whether something is so, and casts
abbrev pub TestsAreDone : Answers → Type 0
TestsAreDone natives =
    (fillers : ℕ → List Filler) → let Done = IsDone fillers natives in
    Done op.Less × Done op.LessEqual × Done op.Not × Done op.Equal × Done op.Same × ((t : SemType) → Done (op.Test t) × Done (op.Cast t))

-- ticks and module variables, and the load of a slot
abbrev pub VariablesAreDone : Answers → Type 0
VariablesAreDone natives =
    (fillers : ℕ → List Filler) → let Done = IsDone fillers natives in
    Done op.Tick × ((m : ℕ) → Done (op.LoadModule m) × Done (op.StoreModule m)) × ((slot : ℕ) → Done (op.Load slot))

-- a panic: it is caught where a trap is open
abbrev pub PanicsAreDone : Answers → Type 0
PanicsAreDone natives = (fillers : ℕ → List Filler) → IsDone fillers natives op.Panic

-- a call: the frame awaits the result, and the unit begins
abbrev pub CallsKeep : Answers → Type 0
CallsKeep natives = (fillers : ℕ → List Filler) (unit count : ℕ) → AsksWell fillers natives (op.Call unit count)

-- a return, also of a worker: it has made all its messages, or leaves an error that fits behind those that it didn't make
abbrev pub ReturnsKeep : Answers → Type 0
ReturnsKeep natives = (fillers : ℕ → List Filler) → AsksWell fillers natives op.Return

-- ---- what a frame does that awaits a result

abbrev pub AwaitedComes : Type 0
AwaitedComes =
    (code : Code) (fillers : ℕ → List Filler) (c : Common) (f : Frame Standing) (callee : ℕ) → WellTyped code → AwaitsResult code c f callee →
    ((v : Value) → UnitAt code callee (λ u. Fits code c v u.result) → TopFits code c (goes_to f ((codes fillers code).resume f.control (v ∷ []))))
    × ((e : Value) → IsClosed c.world.heap → IsMadeError code c e → Caught (TopFits code c) f ((codes fillers code).catch f.control e))

-- ---- messages

-- nothing changes of any other worker
abbrev pub OnlyOf : Option Role → Common → Common → Type 0
OnlyOf role c d = (q : Option Role) → AreApart q role → IsLater q c d

-- a worker that stands at such an operation, in a state whose activations are good
pub record StandsAt (code : Code) (c : Common) (f : Frame Standing) (r : Role) (o : Operation) : Type 0 where
  pub typed : WellTyped code
  pub role : f.role ≡ Some r
  pub fits : TopFits code c f
  pub command : command_at code f.control.place ≡ Some (Do o)
  pub good : GoodActivations code c

-- then all is good, the frame has the numbers behind the place, and nothing else changes
pub record TalkedWell (code : Code) (c d : Common) (f : Frame Standing) (o : Operation) : Type 0 where
  pub good : GoodActivations code d
  pub numbers : TallyIs code d f.role (tally_then 0 (talk_of o) (tally_at code f.control.place))
  pub others : OnlyOf f.role c d

-- a message that fits the operand's type is sent to the worker w
abbrev pub SendsKeep : Type 0
SendsKeep =
    (code : Code) (c : Common) (f : Frame Standing) (r : Role) (o : Operation) (w : ℕ) (m : Value) →
    StandsAt code c f r o → (o ≡ op.Send w) ⊎ (o ≡ op.Post w) → ((s : SemType) → IsLast (stack_at code f.control.place) s → Fits code c m s) →
    TalkedWell code c (with_channel c r.activation r.worker w (one_sent (channel_at c r.activation r.worker w) m)) f o

-- the first message from the worker v is received, and fits behind the receive
abbrev pub MessagesKeep : Type 0
MessagesKeep =
    (code : Code) (c : Common) (f : Frame Standing) (r : Role) (v : ℕ) (m : Value) (queue : List Value) →
    StandsAt code c f r (op.Receive v) → (channel_at c r.activation v r.worker).queue ≡ m ∷ queue →
    let d = with_received c r v queue in TalkedWell code c d f (op.Receive v) × FitsBehind code d m f.control.place

-- no message is there, and the worker v has ended: its error fits behind the receive, or its panic goes on
abbrev pub EndIsReceived : Code → Common → ℕ → End → Type 0
EndIsReceived code d place (Returned e) = FitsBehind code d e place
EndIsReceived code d place (Panicked e) = IsMadeError code d e

abbrev pub EndsKeep : Type 0
EndsKeep =
    (code : Code) (c : Common) (f : Frame Standing) (r : Role) (v : ℕ) (end : End) →
    StandsAt code c f r (op.Receive v) → (channel_at c r.activation v r.worker).queue ≡ [] → worker_end c r.activation v ≡ Some end →
    let d = with_received c r v [] in TalkedWell code c d f (op.Receive v) × EndIsReceived code d f.control.place end

-- not all that was sent to the worker w is received, and it has ended: its error fits behind the flush, or its panic goes on
abbrev pub FlushesKeep : Type 0
FlushesKeep =
    (code : Code) (c : Common) (f : Frame Standing) (r : Role) (o : Operation) (w : ℕ) (end : End) →
    StandsAt code c f r o → (o ≡ op.Flush w) ⊎ (o ≡ op.Done w) →
    (let x = channel_at c r.activation r.worker w in x.received < x.sent) → worker_end c r.activation w ≡ Some end →
    EndIsReceived code c f.control.place end

-- in the reach of no trap, behind a tick: a panic there would come from before the message and from behind it, with other numbers
abbrev pub StandsInNoTrap : (ℕ → Talk) → Type 0
StandsInNoTrap says =
    (code : Code) (unit : ℕ) (u : CodeUnit) (station : Station) (p w : ℕ) (o : Operation) →
    WellTyped code → slice_get code.units unit ≡ Some u → IsStation code unit station → IsIn u p → IsIn u (p + 1) →
    command_at code p ≡ Some (Do op.Tick) → command_at code (p + 1) ≡ Some (Do o) → talk_of o ≡ says w → traps_at code u (p + 1) ≡ Some []

abbrev pub NoTrappedReceive : Type 0
NoTrappedReceive = StandsInNoTrap Receives

abbrev pub NoTrappedSend : Type 0
NoTrappedSend = StandsInNoTrap Sends

-- ---- tables of tests

-- a table of tests for the code, whatever its answers and fillers
abbrev pub table_for : Code → List (List Bool) → List (List Filler) → TestTable
table_for code answers fillers = table_of code.atoms code.inherent code.tested (code_types code).units answers fillers

-- serves each good heap, as calls of the library ask for
abbrev pub GoodHeapsAreServed : Type 0
GoodHeapsAreServed =
    (code : Code) (answers : List (List Bool)) (fillers : List (List Filler)) (c : Common) → GoodHeap code c → Serves (table_for code answers fillers) c.world.heap

-- ---- who wakes

-- when those whose needs are met are ready, all that is shared is good, and nothing else has changed
abbrev pub SettlingKeeps : Type 0
SettlingKeeps =
    (code : Code) (c : Common) (phase : Phase) → NearlyCommon code c phase →
    GoodCommon code (settled c) phase × ((q : Option Role) → IsLater q c (settled c))

-- ---- strands

-- where steps keep what is good, what holds of the strands of machines holds of the code: named workers are started by frames
-- that are no workers, and each alternate wait is for something
abbrev pub StrandsOfCodeHold : Answers → Type 0
StrandsOfCodeHold natives =
    (code : Code) (fillers : ℕ → List Filler) → WellTyped code → IsKept natives (codes fillers code) (code_invariant code) →
    (words : List Text) (input : List ℕ) (ticks : ℕ) (phase : Phase) (s : State Standing) → AreWords words →
    IsReached natives (codes fillers code) words input ticks phase s → StrandsHold natives (codes fillers code) phase s

-- and so each state that is reached is good
abbrev pub ReachedAreGood : Answers → Type 0
ReachedAreGood natives =
    (code : Code) (fillers : ℕ → List Filler) → WellTyped code → IsKept natives (codes fillers code) (code_invariant code) →
    (words : List Text) (input : List ℕ) (ticks : ℕ) (phase : Phase) (s : State Standing) → AreWords words →
    IsReached natives (codes fillers code) words input ticks phase s → Good code phase s
