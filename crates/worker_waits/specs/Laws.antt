-- The laws of workers that wait.
use Rattle.std.specs.Prelude.{◌≡◌, ◌⊎◌, ◌<◌, ℕ, true, List, [], ◌∷◌, length}
use Rattle.type_model.specs.declared.answers.TypeLimit.{TypeLimit}
use Rattle.type_model.specs.declared.atoms.AtomDef.{AtomDef}
use Rattle.type_model.specs.Calls.{Asked}
use Rattle.value_model.specs.declared.filler.Filler.{Filler}
use Rattle.value_model.specs.declared.value.Value.{Value}
use Rattle.value_model.specs.Meaning.{Answers}
use Rattle.typed_tree.specs.declared.package.TypedPackage.{TypedPackage}
use Rattle.typed_tree.specs.declared.expr.TypedExpr.{TypedExpr}
use Rattle.typed_tree.specs.declared.stmt.TypedStmt.{TypedStmt}
use Rattle.op_model.specs.Strands.{has_ended}
use Rattle.machine_model.specs.Machine.{Machine, State}
use Rattle.eval_model.specs.Expressions.{eval}
use Rattle.eval_model.specs.Loops.{turn}
use Rattle.eval_model.specs.Statements.{branch, exec}
use Rattle.eval_model.specs.Trees.{trees}
use Rattle.eval_model.specs.Tasks.{Branch, Choose, Eval, Exec, Loop, Task, Turn}
use Rattle.worker_pairing.specs.Events.{ArePaired, Crew, IsNumbering}
use Rattle.worker_pairing.specs.Marks.{expr_marks, stmts_marks}
use Rattle.worker_waits.specs.Agreement.{AreShown}
use Rattle.worker_waits.specs.Left.{Lasts, Step, expr_shown, stmts_shown}
use Rattle.worker_waits.specs.Standing.{AreAt, AreStuck}
use Rattle.worker_waits.specs.Planned.{ArePlanned}
use Rattle.worker_waits.specs.Waiting.{HasNoRing, NeverRings}

-- where the workers of an activation stand among events that are paired and numbered, no workers of it wait for one another
abbrev pub RingsNever : {C : Type 0} → Machine C → Type 0
RingsNever {C} M =
    (s : State C) (a : ℕ) (crew : Crew) (made : ℕ → ℕ) (rank : ℕ → ℕ → ℕ) →
    ArePaired crew → IsNumbering crew rank → AreAt M s a crew made → HasNoRing M s a

-- where only workers were started, and no workers wait for one another, no strand is left when none is ready
abbrev pub EndsAll : {C : Type 0} → Machine C → Type 0
EndsAll {C} M = (s : State C) → AreStuck M s → ((a : ℕ) → HasNoRing M s a) → (n : ℕ) → n < length s.common.strands → has_ended s.common n ≡ true

-- what is left to be made stays the same, where an expression is taken apart
abbrev pub EvalKeepsEvents : Type 0
EvalKeepsEvents = (e : TypedExpr) (vs : List Value) (ts : List Task) (steps : List Step) → Lasts (Eval e ∷ ts) steps → Lasts (eval e vs ts) steps

-- and so where a statement is, unless it leaves a loop that isn't there
abbrev pub ExecKeepsEvents : Type 0
ExecKeepsEvents = (s : TypedStmt) (ts : List Task) (steps : List Step) → Lasts (Exec s ∷ ts) steps → (exec s ts ≡ []) ⊎ Lasts (exec s ts) steps

-- and whichever way a choice takes, and in each turn of a loop
abbrev pub BranchKeepsEvents : Type 0
BranchKeepsEvents =
    (first second : Branch) (ts : List Task) (steps : List Step) → Lasts (Choose first second ∷ ts) steps →
    Lasts (branch first ts) steps × Lasts (branch second ts) steps

abbrev pub TurnKeepsEvents : Type 0
TurnKeepsEvents = (loop : Loop) (ts : List Task) (steps : List Step) → Lasts (Turn loop ∷ ts) steps → Lasts (turn loop ts) steps

-- an expression that shows no events leaves what follows as it is
abbrev pub SilenceShowsNothing : Type 0
SilenceShowsNothing = (e : TypedExpr) → (expr_shown e).size ≡ 0 → (k : List Step) → (expr_shown e).own k ≡ k

-- pairing sees just the events that are made on the way through
abbrev pub MarksAreShown : Type 0
MarksAreShown = ((e : TypedExpr) → AreShown (expr_marks e) (expr_shown e)) × ((ss : List TypedStmt) → AreShown (stmts_marks ss) (stmts_shown ss))

-- in a package in which each function has a plan no workers of an activation wait for one another, at no time
abbrev pub PlannedNeverRing : (List AtomDef → Asked → TypeLimit → Type 0) → Answers → Type 0
PlannedNeverRing passes natives =
    (atoms : List AtomDef) (fillers : ℕ → List Filler) (p : TypedPackage) → ArePlanned passes p → NeverRings natives (trees atoms fillers p)
