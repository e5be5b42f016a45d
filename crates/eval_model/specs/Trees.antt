-- What typed trees mean: the machine whose frames keep what is still to be done.
use Rattle.std.specs.Prelude.{◌++◌, ℕ, Bool, List, [], ◌∷◌, Option, Some, None, true, false, length, map, option_map}
use Rattle.type_model.specs.declared.atoms.AtomDef.{AtomDef}
use Rattle.operations.specs.declared.operation.Constant.TheVariants as constant
use Rattle.operations.specs.declared.operation.Operation.TheVariants.{Const, Load, StoreModule, Tick, Return, Workers}
use Rattle.value_model.specs.declared.filler.Filler.{Filler}
use Rattle.value_model.specs.declared.value.Value.{Value}
use Rattle.value_model.specs.declared.value.Value.TheVariants.{Bool as Truth}
use Rattle.typed_tree.specs.declared.package.Initial.{Initial}
use Rattle.typed_tree.specs.declared.package.TypedPackage.{TypedPackage}
use Rattle.typed_tree.specs.declared.unit.TypedBody.TheVariants.{Block as BlockBody, Expr as ValueBody}
use Rattle.typed_tree.specs.declared.unit.TypedWorker.{TypedWorker}
use Rattle.typed_tree.specs.Units.{UnitBody, OfFunction, OfWorker, OfAnonymous, OfInitialiser, UnitTree, unit_at}
use Rattle.op_model.specs.ProgramFacts.{ProgramFacts, UnitFacts, WorkerFacts}
use Rattle.op_model.specs.Levels.{numbers_from}
use Rattle.op_model.specs.Local.{Local, acts, with_stack}
use Rattle.machine_model.specs.Machine.{Ask, On, Stuck, Launch, Machine, asks, captured_slots, first_slots, words_of}
use Rattle.eval_model.specs.Expressions.{eval}
use Rattle.eval_model.specs.Loops.{turn}
use Rattle.eval_model.specs.Statements.{branch, exec}
use Rattle.eval_model.specs.Tasks.{Branch, Task, Eval, Exec, Do, Get, Choose, Turn, Guard, Doing, doing, execs}

-- ---- what comes next

abbrev pub chosen : Branch → Branch → List Task → Local → List Value → Ask Doing
chosen first second ts l (Truth true ∷ rest) = On (doing (with_stack l rest) (branch first ts))
chosen first second ts l (Truth false ∷ rest) = On (doing (with_stack l rest) (branch second ts))
chosen first second ts l _ = Stuck

-- `captured` are the slots that the named workers capture. Where nothing is left to be done the frame can do nothing: a body
-- whose end is reached returns nil there
abbrev pub next_of : List ℕ → Local → List Task → Ask Doing
next_of captured l (Eval e ∷ ts) = On (doing l (eval e l.stack ts))
next_of captured l (Exec s ∷ ts) = On (doing l (exec s ts))
next_of captured l (Do op ∷ ts) = asks (λ m. doing m ts) (acts captured op l)
next_of captured l (Get slot narrowed ∷ ts) = asks (λ m. doing m ts) (acts captured (Load slot) l)
next_of captured l (Choose first second ∷ ts) = chosen first second ts l l.stack
next_of captured l (Turn loop ∷ ts) = On (doing l (turn loop ts))
next_of captured l (Guard vs ∷ ts) = On (doing l ts)
next_of captured l [] = Stuck

-- a panic goes on behind the innermost trap
abbrev pub caught : Local → Value → List Task → Option Doing
caught l e [] = None
caught l e (Guard vs ∷ ts) = Some (doing (with_stack l (e ∷ vs)) ts)
caught l e (Eval expr ∷ ts) = caught l e ts
caught l e (Exec s ∷ ts) = caught l e ts
caught l e (Do op ∷ ts) = caught l e ts
caught l e (Get slot narrowed ∷ ts) = caught l e ts
caught l e (Choose first second ∷ ts) = caught l e ts
caught l e (Turn loop ∷ ts) = caught l e ts

-- ---- units

-- named workers start behind the initial statements
abbrev pub starts_named : List TypedWorker → List Task → List Task
starts_named [] ts = ts
starts_named (w ∷ ws) ts = Do Workers ∷ ts

abbrev pub initialises : List Initial → List Task → List Task
initialises [] ts = ts
initialises (i ∷ is) ts = Eval i.value.value ∷ Do (StoreModule i.variable) ∷ initialises is ts

-- where its end is reached a body returns nil, and else nothing is done there
abbrev pub at_end : Bool → List Task
at_end true = Do (Const constant.Nil) ∷ Do Return ∷ []
at_end false = []

abbrev pub body_tasks : UnitBody → List Task
body_tasks (OfFunction (BlockBody initial workers rest ends close)) =
    execs initial.items (starts_named workers.items (execs rest.items (at_end ends)))
body_tasks (OfFunction (ValueBody value)) = Eval value.value ∷ Do Return ∷ []
body_tasks (OfWorker stmts ends) = execs stmts (at_end ends)
body_tasks (OfAnonymous value) = Eval value ∷ Do Return ∷ []
body_tasks (OfInitialiser values) = initialises values (at_end true)

-- a tick is spent at the entry
abbrev pub entered : List Value → UnitTree → Doing
entered args u = doing (record { slots = first_slots (length u.unit.slots) args; stack = [] }) (Do Tick ∷ body_tasks u.body)

-- ---- what is known of a package

abbrev pub worker_facts : TypedWorker → WorkerFacts
worker_facts w = record { unit = w.unit.number; captured = map (λ c. c.slot) w.captured }

abbrev pub workers_in : UnitBody → List WorkerFacts
workers_in (OfFunction (BlockBody initial workers rest ends close)) = map worker_facts workers.items
workers_in (OfFunction (ValueBody value)) = []
workers_in (OfWorker stmts ends) = []
workers_in (OfAnonymous value) = []
workers_in (OfInitialiser values) = []

abbrev pub unit_facts : Option UnitTree → UnitFacts
unit_facts (Some u) =
    record { params = u.unit.params; rest = u.unit.rest; arrow = u.unit.arrow; future = u.unit.future; workers = workers_in u.body }
unit_facts None = record { params = 0; rest = None; arrow = 0; future = 0; workers = [] }

-- over these atoms and their fillers
abbrev pub facts_of : List AtomDef → (ℕ → List Filler) → TypedPackage → ProgramFacts
facts_of atoms fillers p =
    record {
      atoms = atoms;
      units = map (λ n. unit_facts (unit_at p n)) (numbers_from 0 p.units);
      initialisers = map (λ i. i.unit.number) p.initialisers.items;
      fillers = fillers;
    }

abbrev pub launch_of : TypedPackage → Launch
launch_of p =
    record { variables = length p.variables.items; main = p.start; words = words_of (option_map (λ u. unit_facts (Some u)) (unit_at p p.start)) p.words }

-- ---- the machine

abbrev pub trees : List AtomDef → (ℕ → List Filler) → TypedPackage → Machine Doing
trees atoms fillers p =
    record {
      facts = facts_of atoms fillers p;
      launch = launch_of p;
      look = λ unit d. next_of (captured_slots (facts_of atoms fillers p) unit) d.local d.tasks;
      resume = λ d vs. doing (with_stack d.local (vs ++ d.local.stack)) d.tasks;
      catch = λ d e. caught d.local e d.tasks;
      enter = λ unit args. option_map (entered args) (unit_at p unit);
    }
