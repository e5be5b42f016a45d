-- Worked cases of the definitions, reasoned out by hand.
use Rattle.std.specs.Prelude.{◌≡◌, ◌⊎◌, ℕ, true, false, List, [], ◌∷◌, Some, None, slice_get}
use Rattle.std.specs.Global.{Box}
use Rattle.bal_base.specs.declared.place.Place.{Place}
use Rattle.type_model.specs.declared.atoms.AtomDef.{AtomDef}
use Rattle.type_model.specs.declared.basic.BasicSet.TheVariants.{StringAll}
use Rattle.type_model.specs.declared.basic.SemType.{SemType, Basic}
use Rattle.type_model.specs.Inclusion.{IsEmpty, Sub}
use Rattle.operations.specs.declared.operation.Constant.TheVariants as constant
use Rattle.operations.specs.declared.operation.Operation.TheVariants.{Call, Load, Return, Store, Test}
use Rattle.operations.specs.Rows.{Surroundings}
use Rattle.typed_tree.specs.declared.expr.TypedExpr.{TypedExpr, Implied, Local}
use Rattle.typed_tree.specs.declared.stmt.TypedStmt.{Break, Set}
use Rattle.typed_tree.specs.SharedTypes.{Shared, sem_of}
use Rattle.typed_tree.specs.Units.{OfWorker}
use Rattle.eval_model.specs.Tasks.{Choose, Do, Get, Kept, Task}
use Rattle.eval_model.specs.TaskWalk.{TasksOver}
use Rattle.eval_model.specs.Trees.{body_tasks}
use Rattle.eval_model.specs.Walk.{ExprOver, StmtOver}
use Rattle.tree_promises.specs.Flows.{Around, LeavesFalse, LeavesTrue, flow_ways}
use Rattle.tree_promises.specs.Known.{IsImpossible, Known, Point, plain}
use Rattle.tree_promises.specs.Types.{DoesTypes, Stack, type_ways}

-- ---- types of operands

-- one slot of this type, and one unit, with a parameter of this type
abbrev pub one_slot : SemType → Surroundings
one_slot t =
    record {
      units = record { params = t ∷ []; captured = []; result = t; arrow = 0; future = 0 } ∷ [];
      variables = [];
      slots = t ∷ [];
      result = t;
      workers = [];
    }

-- string x = "a"; is typed
abbrev pub TextsAreTexts : Type 0
TextsAreTexts =
    (env : List AtomDef) (value : Box TypedExpr) (text : List ℕ) (t : Shared) (at : Place) → value.value ≡ Implied (constant.Str text) t at
    → StmtOver (type_ways env (one_slot (Basic StringAll))) (Set 0 value at) None [] []

-- string x = (); isn't
abbrev pub NilIsNoText : Type 0
NilIsNoText =
    (env : List AtomDef) (value : Box TypedExpr) (t : Shared) (at : Place) → value.value ≡ Implied constant.Nil t at
    → (q : Stack) → ¬ StmtOver (type_ways env (one_slot (Basic StringAll))) (Set 0 value at) None [] q

-- a unit with one parameter isn't called with two arguments
abbrev pub CallsHaveTheirArguments : Type 0
CallsHaveTheirArguments =
    (env : List AtomDef) (t : SemType) (p q : Stack) → ¬ DoesTypes env (one_slot t) (Call 0 2) p q

-- ---- loops

-- `break` outside of loops is refused by both
abbrev pub BreaksStandInLoops : Type 0
BreaksStandInLoops =
    (env : List AtomDef) (place : Surroundings) (around : Around) (at : Place)
    → ((p q : Stack) → ¬ StmtOver (type_ways env place) (Break at) None p q)
    × ((p q : Point) → ¬ StmtOver (flow_ways env around) (Break at) None p q)

-- ---- what is known of slots

-- two slots of this type
abbrev pub two_slots : SemType → Around
two_slots t = record { slots = t ∷ t ∷ []; captured = [] }

-- a variable is read as what it is narrowed to only where it is known to be that, or what is known can't be
abbrev pub NarrowedIsKnown : Type 0
NarrowedIsKnown =
    (env : List AtomDef) (around : Around) (ks : Known) (slot : ℕ) (t : Shared) (at : Place) (q : Point)
    → ExprOver (flow_ways env around) (Local slot true t at) (plain (Some ks) None) q
    → IsImpossible env ks ⊎ ((s : SemType) × (slice_get ks slot ≡ Some (Some s)) × Sub env s (sem_of t))

-- a slot of which nothing is known isn't read at all
abbrev pub UnsetIsNotRead : Type 0
UnsetIsNotRead =
    (env : List AtomDef) (around : Around) (t : Shared) (at : Place) (q : Point)
    → ¬ ExprOver (flow_ways env around) (Local 0 false t at) (plain (Some (None ∷ [])) None) q

-- x is T ? x : ..: behind the test x is of both types
abbrev pub TestsNarrow : Type 0
TestsNarrow =
    (env : List AtomDef) (s t r e : SemType) → LeavesTrue env s t r → LeavesFalse env s t e
    → TasksOver (flow_ways env (two_slots s)) (Get 0 None ∷ Do (Test t) ∷ Choose (Kept 0 r []) (Kept 0 e []) ∷ Do Return ∷ [])
    (plain (Some (Some s ∷ None ∷ [])) None) None

-- match x: a test of what is kept of x says the same of x
abbrev pub TestsOfCopiesNarrow : Type 0
TestsOfCopiesNarrow =
    (env : List AtomDef) (s t r e : SemType) → LeavesTrue env s t r → LeavesFalse env s t e
    → TasksOver (flow_ways env (two_slots s))
    (Get 0 None ∷ Do (Store 1) ∷ Do (Load 1) ∷ Do (Test t) ∷ Choose (Kept 0 r []) (Kept 0 e []) ∷ Do Return ∷ [])
    (plain (Some (Some s ∷ None ∷ [])) None) None

-- ---- the ends of bodies

abbrev pub no_more : List Task
no_more = body_tasks (OfWorker [] false)

-- a body whose end isn't said to be reached may end only where some slot would hold a value of no type
abbrev pub ReachedEndsAreSaid : Type 0
ReachedEndsAreSaid =
    (env : List AtomDef) (around : Around) (s : SemType)
    → TasksOver (flow_ways env around) no_more (plain (Some (Some s ∷ [])) None) None → IsEmpty env s

-- and one whose end is, returns nil there
abbrev pub NilIsReturned : Type 0
NilIsReturned =
    (env : List AtomDef) (place : Surroundings) → place.result ≡ Basic StringAll
    → ¬ TasksOver (type_ways env place) (body_tasks (OfWorker [] true)) [] None
