-- Worked cases: which constructs start something, and which wait for a default worker.
use Rattle.std.specs.Prelude.{ℕ, suc, true, [], ◌∷◌, None, Some}
use Rattle.typed_tree.specs.declared.form.Callee.{Callee}
use Rattle.typed_tree.specs.declared.form.StrictForm.TheVariants as form
use Rattle.typed_tree.specs.Units.{OfWorker}
use Rattle.held_operations.specs.Constructs.{operations_of}
use Rattle.eval_model.specs.TaskWalk.{TasksOver}
use Rattle.eval_model.specs.Trees.{body_tasks}
use Rattle.eval_model.specs.Walk.{OpsOver}
use Rattle.lowered_ends.specs.Starting.{AwaitsNamed, StartsNone, only}

-- `start f()` does, whatever f is
abbrev pub StartsAreSeen : Type 0
StartsAreSeen = (started : Callee) (count : ℕ) → ¬ OpsOver (only StartsNone) (operations_of (form.Start started) count) tt tt

-- `f()` doesn't
abbrev pub CallsStartNothing : Type 0
CallsStartNothing = (called : Callee) (count : ℕ) → OpsOver (only StartsNone) (operations_of (form.Call called) count) tt tt

-- nor does the end of a body
abbrev pub EndsStartNothing : Type 0
EndsStartNothing = TasksOver (only StartsNone) (body_tasks (OfWorker [] true)) tt None

-- `wait A` waits for a named worker, and `wait f` for a future
abbrev pub WaitsAreForNamed : Type 0
WaitsAreForNamed =
    ((w : ℕ) → OpsOver (only AwaitsNamed) (operations_of (form.WaitAny (Some (suc w) ∷ [])) 0) tt tt)
    × OpsOver (only AwaitsNamed) (operations_of (form.WaitAny (None ∷ [])) 1) tt tt

-- for the default worker nobody may wait
abbrev pub DefaultIsNotAwaited : Type 0
DefaultIsNotAwaited = ¬ OpsOver (only AwaitsNamed) (operations_of (form.WaitAny (Some 0 ∷ [])) 0) tt tt
