-- Worked codes: the smallest one with a named worker and a message, and codes that break a rule.
use Rattle.std.specs.Prelude.{ℕ, pos, true, false, List, [], ◌∷◌, ◌++◌, None}
use Rattle.type_model.specs.declared.basic.BasicSet.TheVariants.{Nil as NilOnly, IntRange, ErrorAll}
use Rattle.type_model.specs.declared.basic.SemType.{SemType, Basic, Atom}
use Rattle.type_model.specs.declared.atoms.AtomDef.TheVariants.{List as ListAtom, Arrow, Future as FutureAtom}
use Rattle.operations.specs.declared.operation.Constant.TheVariants.{Nil, Int}
use Rattle.stack_code.specs.declared.code.Code.{Code}
use Rattle.stack_code.specs.declared.code.Spawn.{Spawn}
use Rattle.stack_code.specs.declared.code.Unit.{Unit as CodeUnit}
use Rattle.stack_code.specs.declared.code.StackMap.{StackMap}
use Rattle.stack_code.specs.declared.instr.Instr.{Instr}
use Rattle.stack_code.specs.declared.instr.Instr.TheVariants.{Const, Pop, Tick, Return, Workers, Send, Receive, Trap, Untrap}
use Rattle.stack_code.specs.WellTyped.{PlaceHolds, WellTyped}

-- ---- types and maps

abbrev pub seven : SemType
seven = Basic (IntRange (pos 7) (pos 7))

abbrev pub nil : SemType
nil = Basic NilOnly

abbrev pub errors : SemType
errors = Basic ErrorAll

abbrev pub uncounted : List SemType → StackMap
uncounted stack = record { stack = stack; counted = false; sent = []; received = [] }

-- the numbers of two workers
abbrev pub counted : List SemType → (sent received : List ℕ) → StackMap
counted stack sent received = record { stack = stack; counted = true; sent = sent; received = received }

-- ---- the worked code: main starts a worker, sends it 7 and returns; the worker receives it

abbrev pub unit_from : (first end arrow future : ℕ) → List Spawn → CodeUnit
unit_from first end arrow future workers =
    record { first = first; end = end; params = []; captured = []; slots = []; result = nil; rest = None; arrow = arrow; future = future; workers = workers }

-- with these units, instructions and maps
abbrev pub code_of : List CodeUnit → List Instr → List StackMap → Code
code_of units instrs maps =
    record {
      atoms = ListAtom [] None ∷ Arrow (Atom 0) nil false ∷ FutureAtom nil ∷ [];
      inherent = [];
      tested = [];
      constants = Int (pos 7) ∷ Nil ∷ [];
      variables = [];
      units = units;
      initialisers = [];
      start = 0;
      words = 0;
      instrs = instrs;
      maps = maps;
    }

abbrev pub main_maps : List StackMap
main_maps =
    uncounted [] ∷ uncounted [] ∷ counted [] (0 ∷ 0 ∷ []) (0 ∷ 0 ∷ []) ∷ counted (seven ∷ []) (0 ∷ 0 ∷ []) (0 ∷ 0 ∷ [])
    ∷ counted (nil ∷ []) (0 ∷ 1 ∷ []) (0 ∷ 0 ∷ []) ∷ []

abbrev pub worker_maps : List StackMap
worker_maps =
    counted [] (0 ∷ 0 ∷ []) (0 ∷ 0 ∷ []) ∷ counted [] (0 ∷ 0 ∷ []) (0 ∷ 0 ∷ []) ∷ counted (seven ∷ []) (0 ∷ 0 ∷ []) (1 ∷ 0 ∷ [])
    ∷ counted [] (0 ∷ 0 ∷ []) (1 ∷ 0 ∷ []) ∷ counted (nil ∷ []) (0 ∷ 0 ∷ []) (1 ∷ 0 ∷ []) ∷ []

abbrev pub two_units : List CodeUnit
two_units = unit_from 0 5 1 2 (record { unit = 1; slots = [] } ∷ []) ∷ unit_from 5 10 0 0 [] ∷ []

abbrev pub main_instrs : List Instr
main_instrs = Tick ∷ Workers ∷ Const 0 ∷ Send 1 ∷ Return ∷ []

abbrev pub worker_instrs : List Instr
worker_instrs = Tick ∷ Receive 0 ∷ Pop ∷ Const 1 ∷ Return ∷ []

abbrev pub worked : Code
worked = code_of two_units (main_instrs ++ worker_instrs) (main_maps ++ worker_maps)

abbrev pub WorkedIsWellTyped : Type 0
WorkedIsWellTyped = WellTyped worked

-- so the worker's entry is typed and has a number for each of the two workers
abbrev pub WorkerStands : Type 0
WorkerStands = PlaceHolds worked 5

-- ---- codes that break a rule, each at its first place

-- the worker's entry has the numbers of a crew of its own
abbrev pub wrong_crew : StackMap → Code
wrong_crew m = code_of two_units (main_instrs ++ worker_instrs) (main_maps ++ m ∷ counted [] (0 ∷ 0 ∷ []) (0 ∷ 0 ∷ []) ∷ [])

-- a trap round the start of workers, whatever is known where it lands
abbrev pub trapped_workers : StackMap → Code
trapped_workers landing =
    code_of (unit_from 0 6 1 2 (record { unit = 1; slots = [] } ∷ []) ∷ unit_from 6 11 0 0 [] ∷ [])
    ((Tick ∷ Trap 4 ∷ Workers ∷ Untrap ∷ Pop ∷ Return ∷ []) ++ worker_instrs)
    (uncounted [] ∷ uncounted [] ∷ uncounted [] ∷ counted [] (0 ∷ 0 ∷ []) (0 ∷ 0 ∷ []) ∷ landing ∷ [])

-- a trap that lands without its error
abbrev pub landing_without_error : Code
landing_without_error =
    code_of (unit_from 0 5 1 2 [] ∷ []) (Tick ∷ Trap 3 ∷ Untrap ∷ Const 1 ∷ Return ∷ []) (uncounted [] ∷ uncounted [] ∷ uncounted [] ∷ uncounted [] ∷ uncounted (nil ∷ []) ∷ [])

-- a return of 7, where the unit's result is nil
abbrev pub return_above_result : Code
return_above_result = code_of (unit_from 0 3 1 2 [] ∷ []) (Tick ∷ Const 0 ∷ Return ∷ []) (uncounted [] ∷ uncounted [] ∷ uncounted (seven ∷ []) ∷ [])

abbrev pub WrongCrewIsRefused : Type 0
WrongCrewIsRefused = ¬ (PlaceHolds (wrong_crew (counted [] (0 ∷ []) (0 ∷ []))) 5)

abbrev pub TrappedWorkersAreRefused : Type 0
TrappedWorkersAreRefused = (landing : StackMap) → ¬ (PlaceHolds (trapped_workers landing) 1)

abbrev pub LandingIsRefused : Type 0
LandingIsRefused = ¬ (PlaceHolds landing_without_error 1)

abbrev pub ReturnIsRefused : Type 0
ReturnIsRefused = ¬ (PlaceHolds return_above_result 2)
