-- Parts of needs, which functions of their own meet.
use Rattle.std.specs.Prelude.{◌≡◌, ◌++◌, ◌||◌, ℕ, Bool, List, [], ◌∷◌, Result, Ok, Err, Some, ⊤, length, pred, slice_get, take}
use Rattle.std.specs.Global.{Vec}
use Rattle.std.specs.List.{list_any}
use Rattle.bal_base.specs.declared.fault.Fault.{Fault}
use Rattle.bal_base.specs.declared.place.Place.{Place}
use Rattle.bal_base.specs.declared.stop.Stop.{Stop}
use Rattle.bal_base.specs.declared.stop.Stop.TheVariants.{Memory, Fault as OwnFault}
use Rattle.bal_base.specs.declared.text.Name.{Name}
use Rattle.bal_tree.specs.declared.def.FunctionDef.{FunctionDef}
use Rattle.bal_tree.specs.declared.def.Worker.{Worker}
use Rattle.bal_tree.specs.declared.name.Word.{Word}
use Rattle.checks.specs.Checks.{Comes, gives_some, ◌▷◌}
use Rattle.flow_narrowing.specs.declared.flow.Variable.{Variable}
use Rattle.type_model.specs.Places.{is_same_text}
use Rattle.typed_tree.specs.declared.stmt.TypedStmt.{TypedStmt}
use Rattle.typed_tree.specs.declared.unit.TypedBody.{TypedBody}
use Rattle.typed_tree.specs.declared.unit.TypedBody.TheVariants as typed
use Rattle.typed_tree.specs.declared.unit.TypedFunction.{TypedFunction}
use Rattle.typed_tree.specs.declared.unit.TypedWorker.{TypedWorker}
use Rattle.typed_tree.specs.SharedTypes.{Shared}
use Rattle.check_words.specs.Actions.{result_of}
use Rattle.check_words.specs.Calls.{captures, new_number, opens_unit, parameter, with_parameter}
use Rattle.check_words.specs.Sharing.{SameShared, SameVariable}
use Rattle.check_words.specs.State.{State, UnitAtWork, with_variable}
use Rattle.check_words.specs.Statements.{closes_block}
use Rattle.check_words.specs.Units.{adds_function, changes_done, changes_site, outside_functions, typed_worker, worker_unit}
use Rattle.check_words.specs.Words.{Step, changes_flow, sets_unit, unit_now, wanted, wants_no_more}

-- the next parameter is declared under this name
abbrev pub declares_parameter : Name → Bool → Step
declares_parameter name assigned =
    unit_now ▷ λ unit. gives_some (λ s t. slice_get unit.slots (length unit.flow.variables) ≡ Some t) ▷ λ t.
    changes_flow (with_variable (parameter name (length unit.flow.variables) t assigned))

-- the variable is that of the unit's next parameter, whose type it has by another handle
pub record IsNextParameter (name : Name) (assigned : Bool) (unit : UnitAtWork) (v : Variable) : Type 0 where
  pub ty : Shared
  pub slot : slice_get unit.slots (length unit.flow.variables) ≡ Some ty
  pub same : SameVariable (parameter name (length unit.flow.variables) ty assigned) v

-- the function is done, and none is at hand
abbrev pub keeps_function : TypedFunction → Step
keeps_function f = changes_done (λ done. record done { functions = done.functions ++ f ∷ []; workers = [] }) ▷ λ u. changes_site outside_functions

-- statements of the initial part, workers, and the rest
abbrev pub IsBlockOf : List TypedWorker → Bool → Place → (initial rest : List TypedStmt) → TypedBody → Type 0
IsBlockOf workers ends close initial rest b =
    (i r : Vec TypedStmt) × (w : Vec TypedWorker) × (b ≡ typed.Block i w r ends close) × (i.items ≡ initial) × (w.items ≡ workers) × (r.items ≡ rest)

-- a function between braces, whose unit has ended at this one
abbrev pub adds_block_function : FunctionDef → UnitAtWork → Place → Step
adds_block_function d u close =
    closes_block ▷ λ rest. closes_block ▷ λ initial. gives_some (λ s workers. workers ≡ s.done.workers) ▷ λ workers.
    adds_function d u (IsBlockOf workers u.flow.reached close initial.stmts rest.stmts)

-- ---- workers

-- a variable that is seen has the name, or a worker before the one with this number
abbrev pub is_taken : UnitAtWork → List Name → Name → ℕ → Bool
is_taken u workers name number = list_any (λ v. is_same_text v.name name) u.flow.variables || list_any (is_same_text name) (take (pred number) workers)

-- the unit of a worker with this result is opened
abbrev pub opens_worker : ℕ → Shared → List Word → Step
opens_worker number t uses =
    unit_now ▷ λ around. new_number ▷ λ n. opens_unit (worker_unit n number t around.flow.reached (captures around.flow.variables uses))

-- a worker whose unit has ended at this brace
abbrev pub adds_worker : Worker → UnitAtWork → Place → Step
adds_worker w u close =
    closes_block ▷ λ b. gives_some (λ s t. typed_worker w u u.flow.reached t × (t.stmts.items ≡ b.stmts) × (t.close ≡ close)) ▷ λ t.
    changes_done (λ done. record done { workers = done.workers ++ t ∷ [] })

-- the same fault, or want of memory
abbrev pub IsSameStop : Fault → Stop Fault → Type 0
IsSameStop fault Memory = ⊤
IsSameStop fault (OwnFault f) = f ≡ fault

-- what is known by another handle, or the same fault; or want of memory
abbrev pub IsKnown : Result Shared Fault → Result Shared (Stop Fault) → Type 0
IsKnown (Ok t) (Ok u) = SameShared t u
IsKnown (Err fault) (Ok u) = ⊥
IsKnown (Ok t) (Err (OwnFault f)) = ⊥
IsKnown (Err fault) (Err (OwnFault f)) = f ≡ fault
IsKnown (Ok t) (Err Memory) = ⊤
IsKnown (Err fault) (Err Memory) = ⊤

-- what a worker gives, by another handle
abbrev pub GivesShared : ℕ → State → Result Shared (Stop Fault) → Type 0
GivesShared number s (Ok u) = (t : Shared) × SameShared t u × Comes (result_of number) s (Ok t) s
GivesShared number s (Err stop) = Comes (result_of number) s (Err stop) s

-- ---- parameters of anonymous functions

-- a parameter more, of the type that is wanted
abbrev pub adds_parameter : Name → Step
adds_parameter name = wanted ▷ λ t. wants_no_more 1 ▷ λ v. unit_now ▷ λ unit. sets_unit (with_parameter name t unit)
