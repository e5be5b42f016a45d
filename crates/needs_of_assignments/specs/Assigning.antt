-- Names that are assigned: what is wanted, what is read, and what is put where.
use Rattle.std.specs.Prelude.{◌≡◌, ◌++◌, [], ◌∷◌, None, Some, Result, Ok, Err, is_some}
use Rattle.bal_base.specs.declared.fault.Fault.{Fault}
use Rattle.bal_base.specs.declared.place.Place.{Place}
use Rattle.bal_base.specs.declared.stop.Stop.{Stop}
use Rattle.bal_tree.specs.declared.name.QualifiedName.{QualifiedName}
use Rattle.bal_tree.specs.declared.stmt.AssignOp.{AssignOp}
use Rattle.checks.specs.Checks.{Comes, ◌▷◌}
use Rattle.descriptors.specs.declared.names.Names.{Names}
use Rattle.descriptors.specs.declared.names.Meaning.TheVariants as meaning
use Rattle.descriptors.specs.Described.{IsCopy}
use Rattle.typed_tree.specs.declared.expr.TypedExpr.{TypedExpr}
use Rattle.typed_tree.specs.declared.stmt.PerformForm.TheVariants as perform
use Rattle.typed_tree.specs.declared.stmt.TypedStmt.{TypedStmt}
use Rattle.typed_tree.specs.declared.stmt.UpdateTarget.{UpdateTarget}
use Rattle.typed_tree.specs.declared.stmt.UpdateTarget.TheVariants as target
use Rattle.typed_tree.specs.SharedTypes.{Shared}
use Rattle.check_words.specs.Seen.{Seen, SeenConstant, SeenLibrary, SeenMeaning, SeenNothing, SeenVariable, SeenWorker}
use Rattle.check_words.specs.Sharing.{SameShared}
use Rattle.check_words.specs.State.{State, shared_now, with_type}
use Rattle.check_words.specs.Statements.{AssignsModule, AssignsVariable, assigned_by, takes_operator, takes_part, updates_assigned}
use Rattle.check_words.specs.Statements.{Assigned as AssignedWords}
use Rattle.check_words.specs.StmtViews.{IsPerform, IsSet}
use Rattle.check_words.specs.Words.{Step, changes_flow, done}
use Rattle.needs_of_assignments.specs.declared.assigned.Assigned.{Assigned}
use Rattle.needs_of_assignments.specs.declared.assigned.Assigned.TheVariants as assigned

-- ---- what is wanted

abbrev pub ended : Result Shared (Stop Fault) → Result (Unit {0}) (Stop Fault)
ended (Ok t) = Ok tt
ended (Err stop) = Err stop

-- the type is wanted behind the others
abbrev pub with_want : State → Result Shared (Stop Fault) → State
with_want s (Ok t) = record s { wants = s.wants ++ Some t ∷ [] }
with_want s (Err stop) = s

-- in every state the check comes to wanting this type, or to this stop
unfoldable pub Wants : Step → Result Shared (Stop Fault) → Type 0
Wants check r = (s : State) → Comes check s (ended r) (with_want s r)

-- ---- what is read

-- of what may be assigned, this type is read
abbrev pub IsReadAs : Seen → Shared → Type 0
IsReadAs (SeenVariable v) t = SameShared (shared_now v) t
IsReadAs (SeenMeaning (meaning.Variable number final u)) t = IsCopy u t.value
IsReadAs (SeenMeaning (meaning.TypeName u)) t = ⊥
IsReadAs (SeenMeaning (meaning.Constant u)) t = ⊥
IsReadAs (SeenMeaning (meaning.Function f)) t = ⊥
IsReadAs (SeenWorker w) t = ⊥
IsReadAs (SeenConstant c) t = ⊥
IsReadAs (SeenLibrary r) t = ⊥
IsReadAs (SeenNothing code) t = ⊥

-- ---- what is put where

-- what is assigned, as it is held
abbrev pub IsHeld : AssignedWords → Assigned → Type 0
IsHeld (AssignsVariable v) what = what ≡ assigned.Variable v.name v.slot (is_some v.narrowed)
IsHeld (AssignsModule number t) what = what ≡ assigned.Module number

abbrev pub IsAssignedAs : Seen → Assigned → Type 0
IsAssignedAs (SeenVariable v) what = IsHeld (AssignsVariable v) what
IsAssignedAs (SeenMeaning (meaning.Variable number final t)) what = IsHeld (AssignsModule number t) what
IsAssignedAs (SeenMeaning (meaning.TypeName t)) what = ⊥
IsAssignedAs (SeenMeaning (meaning.Constant t)) what = ⊥
IsAssignedAs (SeenMeaning (meaning.Function f)) what = ⊥
IsAssignedAs (SeenWorker w) what = ⊥
IsAssignedAs (SeenConstant c) what = ⊥
IsAssignedAs (SeenLibrary r) what = ⊥
IsAssignedAs (SeenNothing code) what = ⊥

-- a variable of the unit has its declared type
abbrev pub forgets : Assigned → Step
forgets (assigned.Variable name slot narrowed) = changes_flow (with_type name None)
forgets (assigned.Module number) = done

abbrev pub IsAssignment : Assigned → TypedExpr → Place → TypedStmt → Type 0
IsAssignment (assigned.Variable name slot narrowed) value at s = IsSet slot value at s
IsAssignment (assigned.Module number) value at s = IsPerform (perform.SetVariable number) (value ∷ []) at s

abbrev pub target_of : Assigned → Shared → UpdateTarget
target_of (assigned.Variable name slot narrowed) read = target.Local slot narrowed read
target_of (assigned.Module number) read = target.Variable number

-- a name is assigned with an operator, where this type was read of it
abbrev pub stores_update : Names → QualifiedName → AssignOp → Shared → Place → Step
stores_update names q assign read at =
    takes_operator assign ▷ λ op. takes_part ▷ λ value. assigned_by names q ▷ λ a. updates_assigned a read op value at
