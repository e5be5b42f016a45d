-- What is left to be made stays the same while trees are taken apart.
use Rattle.std.proofs.Common.{◌≡◌, ℕ, List, [], ◌∷◌, Option, Some, None, refl, sym, subst, ap, ◌∙◌, arith, true, false}
use denote.Hole.Carrier
use Rattle.operations.specs.declared.operation.Operation.{Operation}
use Rattle.value_model.specs.declared.value.Value.{Value}
use Rattle.typed_tree.specs.declared.expr.TypedExpr.{TypedExpr, Strict', Implied, Local as Variable, And', Or', Conditional', Elvis', Check', Trap', Function', Parens', out-TypedExpr, fold_out-TypedExpr}
use Rattle.typed_tree.specs.declared.form.StrictForm.{StrictForm}
use Rattle.typed_tree.specs.declared.form.StrictForm.TheVariants as form
use Rattle.typed_tree.specs.declared.form.Callee.TheVariants as callee
use Rattle.typed_tree.specs.declared.form.Operator.{Operator}
use Rattle.typed_tree.specs.declared.form.Operator.TheVariants as operator
use Rattle.typed_tree.specs.declared.form.Read.{Read}
use Rattle.typed_tree.specs.declared.form.Read.TheVariants as read
use Rattle.typed_tree.specs.declared.unit.Captured.{Captured}
use Rattle.held_operations.specs.Constructs.{operations_of, operator_operations, read_operations, wait_operations}
use Rattle.eval_model.specs.Expressions.{captures, eval, makes_function}
use Rattle.eval_model.specs.Tasks.{Do, Task, dos, evals}
use Rattle.worker_waits.specs.Left.{Shown, Step, alternate_shown, expr_shown, expr_step, exprs_shown, form_shown, nothing_shown, op_shown, ops_shown, tasks_shown, then_shown}

-- the same events, and none are wrong where none were
abbrev pub Shows : Shown → Shown → Type 0
Shows new old = old.wrong ≡ 0 → (new.wrong ≡ 0) × ((k : List Step) → new.own k ≡ old.own k)

pub dos-show : (ops : List Operation) (ts : List Task) → Shows (tasks_shown (dos ops ts)) (then_shown (ops_shown ops) (tasks_shown ts))
dos-show [] ts none = (omega (arith, none), λ k. refl)
dos-show (o ∷ ops) ts none =
    let rest = dos-show ops ts (omega (arith, none)) in
    let right = rest.0 in
    (omega (arith, none, right), λ k. ap (λ x. (op_shown o).own x) (rest.1 k))

pub evals-show : (es : List TypedExpr) (ts : List Task) → Shows (tasks_shown (evals es ts)) (then_shown (exprs_shown es) (tasks_shown ts))
evals-show [] ts none = (omega (arith, none), λ k. refl)
evals-show (e ∷ es) ts none =
    let rest = evals-show es ts (omega (arith, none)) in
    let right = rest.0 in
    (omega (arith, none, right), λ k. ap (λ x. (expr_shown e).own x) (rest.1 k))

-- ---- what each construct does with its operands

pub operator-shows : (o : Operator) → Shows (ops_shown (operator_operations o)) nothing_shown
operator-shows operator.Negate none = (refl, λ k. refl)
operator-shows operator.Not none = (refl, λ k. refl)
operator-shows operator.Multiply none = (refl, λ k. refl)
operator-shows operator.Divide none = (refl, λ k. refl)
operator-shows operator.Remainder none = (refl, λ k. refl)
operator-shows operator.Add none = (refl, λ k. refl)
operator-shows operator.Concat none = (refl, λ k. refl)
operator-shows operator.Subtract none = (refl, λ k. refl)
operator-shows operator.Less none = (refl, λ k. refl)
operator-shows operator.LessEqual none = (refl, λ k. refl)
operator-shows operator.Greater none = (refl, λ k. refl)
operator-shows operator.GreaterEqual none = (refl, λ k. refl)
operator-shows operator.Equal none = (refl, λ k. refl)
operator-shows operator.NotEqual none = (refl, λ k. refl)
operator-shows operator.Same none = (refl, λ k. refl)
operator-shows operator.NotSame none = (refl, λ k. refl)

read-shows : (how : Read) → Shows (ops_shown (read_operations how)) nothing_shown
read-shows read.Item none = (refl, λ k. refl)
read-shows read.Key none = (refl, λ k. refl)
read-shows read.Char none = (refl, λ k. refl)
read-shows (read.Field name) none = (refl, λ k. refl)
read-shows (read.OptionalField name) none = (refl, λ k. refl)

wait-shows : (names : List (Option ℕ)) → Shows (ops_shown (wait_operations names)) (alternate_shown names)
wait-shows [] none = absurd (omega (arith, none))
wait-shows (Some w ∷ []) none = (refl, λ k. refl)
wait-shows (None ∷ []) none = (refl, λ k. refl)
wait-shows (Some w ∷ x ∷ more) none = (refl, λ k. refl)
wait-shows (None ∷ x ∷ more) none = (omega (arith, none), λ k. refl)

pub form-shows : (f : StrictForm) (n : ℕ) → Shows (ops_shown (operations_of f n)) (form_shown f)
form-shows (form.Literal c) n none = (refl, λ k. refl)
form-shows (form.Constant c) n none = (refl, λ k. refl)
form-shows (form.Variable m) n none = (refl, λ k. refl)
form-shows (form.FunctionName unit) n none = (refl, λ k. refl)
form-shows (form.Operator o) n none = operator-shows o refl
form-shows (form.Is t) n none = (refl, λ k. refl)
form-shows (form.Cast t) n none = (refl, λ k. refl)
form-shows (form.List atom immutable) n none = (refl, λ k. refl)
form-shows (form.Mapping atom immutable) n none = (refl, λ k. refl)
form-shows form.Error n none = (refl, λ k. refl)
form-shows (form.Read how) n none = read-shows how refl
form-shows (form.Call (callee.Unit unit fixed None)) n none = (refl, λ k. refl)
form-shows (form.Call (callee.Unit unit fixed (Some atom))) n none = (refl, λ k. refl)
form-shows (form.Call callee.Value) n none = (refl, λ k. refl)
form-shows (form.Library call atom None) n none = (refl, λ k. refl)
form-shows (form.Library call atom (Some t)) n none = (refl, λ k. refl)
form-shows (form.Start (callee.Unit unit fixed None)) n none = (refl, λ k. refl)
form-shows (form.Start (callee.Unit unit fixed (Some atom))) n none = (refl, λ k. refl)
form-shows (form.Start callee.Value) n none = (refl, λ k. refl)
form-shows (form.Send (Some w)) n none = (refl, λ k. refl)
form-shows (form.Send None) n none = absurd (omega (arith, none))
form-shows (form.SyncSend (Some w)) n none = (refl, λ k. refl)
form-shows (form.SyncSend None) n none = absurd (omega (arith, none))
form-shows (form.Receive (Some w)) n none = (refl, λ k. refl)
form-shows (form.Receive None) n none = absurd (omega (arith, none))
form-shows (form.Flush (Some w)) n none = (refl, λ k. refl)
form-shows (form.Flush None) n none = absurd (omega (arith, none))
form-shows (form.WaitAny names) n none = let h = wait-shows names none in let right = h.0 in (omega (arith, right), h.1)
form-shows (form.WaitAll atom names) n none = (omega (arith, none), λ k. refl)

strict-shows : (f : StrictForm) (es : List TypedExpr) (n : ℕ) (ts : List Task) → Shows (tasks_shown (evals es (dos (operations_of f n) ts))) (then_shown (then_shown (exprs_shown es) (form_shown f)) (tasks_shown ts))
strict-shows f es n ts none =
    let fs = form-shows f n (omega (arith, none)) in
    let f0 = fs.0 in
    let ds = dos-show (operations_of f n) ts (omega (arith, none, f0)) in
    let d0 = ds.0 in
    let xs = evals-show es (dos (operations_of f n) ts) (omega (arith, none, d0)) in
    (xs.0, λ k. xs.1 k ∙ ap (λ x. (exprs_shown es).own x) (ds.1 k ∙ fs.1 ((tasks_shown ts).own k)))

-- the captured values are loaded
captures-show : (cs : List Captured) (ts : List Task) → Shows (tasks_shown (captures cs ts)) (tasks_shown ts)
captures-show [] ts none = (none, λ k. refl)
captures-show (c ∷ cs) ts none = let rest = captures-show cs ts none in let r = rest.0 in (omega (arith, r), rest.1)

-- ---- expressions

abbrev EvalShows : TypedExpr → Type 0
EvalShows e = (vs : List Value) (ts : List Task) → Shows (tasks_shown (eval e vs ts)) (then_shown (expr_shown e) (tasks_shown ts))

-- by what the fold makes of the construct
by-layer : (e : TypedExpr) (vs : List Value) (ts : List Task) {b : Shown} → expr_shown e ≡ b → Shows (tasks_shown (eval e vs ts)) (then_shown b (tasks_shown ts)) → Shows (tasks_shown (eval e vs ts)) (then_shown (expr_shown e) (tasks_shown ts))
by-layer e vs ts eq h = subst (λ x. Shows (tasks_shown (eval e vs ts)) (then_shown x (tasks_shown ts))) (sym eq) h

mutual
  unfolding out-TypedExpr Carrier.out

  pub eval-shows : (e : TypedExpr) → EvalShows e
  eval-shows (Implied value type at) vs ts = by-layer (Implied value type at) vs ts (fold_out-TypedExpr Shown expr_step (Implied value type at)) (λ none. (omega (arith, none), λ k. refl))
  eval-shows (Variable slot narrowed type at) vs ts = by-layer (Variable slot narrowed type at) vs ts (fold_out-TypedExpr Shown expr_step (Variable slot narrowed type at)) (λ none. (omega (arith, none), λ k. refl))
  eval-shows (And' s left t right type at) vs ts = by-layer (And' s left t right type at) vs ts (fold_out-TypedExpr Shown expr_step (And' s left t right type at)) (λ none. (omega (arith, none), λ k. refl))
  eval-shows (Or' s left t right type at) vs ts = by-layer (Or' s left t right type at) vs ts (fold_out-TypedExpr Shown expr_step (Or' s left t right type at)) (λ none. (omega (arith, none), λ k. refl))
  eval-shows (Conditional' s condition t middle u last type at) vs ts = by-layer (Conditional' s condition t middle u last type at) vs ts (fold_out-TypedExpr Shown expr_step (Conditional' s condition t middle u last type at)) (λ none. (omega (arith, none), λ k. refl))
  eval-shows (Elvis' own s left t right type at) vs ts = by-layer (Elvis' own s left t right type at) vs ts (fold_out-TypedExpr Shown expr_step (Elvis' own s left t right type at)) (λ none. (omega (arith, none), λ k. refl))
  eval-shows (Check' true own s operand type at) vs ts = by-layer (Check' true own s operand type at) vs ts (fold_out-TypedExpr Shown expr_step (Check' true own s operand type at)) (λ none. (omega (arith, none), λ k. refl))
  eval-shows (Check' false own s operand type at) vs ts = by-layer (Check' false own s operand type at) vs ts (fold_out-TypedExpr Shown expr_step (Check' false own s operand type at)) (λ none. (omega (arith, none), λ k. refl))
  eval-shows (Trap' s operand type at) vs ts = by-layer (Trap' s operand type at) vs ts (fold_out-TypedExpr Shown expr_step (Trap' s operand type at)) (λ none. (omega (arith, none), λ k. refl))
  eval-shows (Parens' s inner type at) vs ts = by-layer (Parens' s inner type at) vs ts (fold_out-TypedExpr Shown expr_step (Parens' s inner type at)) (λ none. (omega (arith, none), λ k. refl))
  eval-shows (Function' function s value type at) vs ts =
      by-layer (Function' function s value type at) vs ts (fold_out-TypedExpr Shown expr_step (Function' function s value type at))
      (λ none. captures-show function.value.captured (Do (makes_function function.value) ∷ ts) (omega (arith, none)))
  eval-shows (Strict' f shape operands type at) vs ts =
      by-layer (Strict' f shape operands type at) vs ts (fold_out-TypedExpr Shown expr_step (Strict' f shape operands type at)) (strict-shows f _ _ ts)
