-- What each part of a tree shows is a list of steps, as many as it says, and as many of these as it says must not be cut off.
use Rattle.std.proofs.Common.{◌≡◌, ◌++◌, ◌+◌, ◌∙◌, ℕ, List, [], ◌∷◌, Option, Some, None, length, refl, sym, subst, ap, arith, Bool, true}
use Rattle.std.proofs.lemmas.List.{append_assoc, length-append}
use Rattle.std.specs.Prelude.{if◌then◌else◌}
use denote.Hole.Carrier
use Rattle.operations.specs.declared.operation.Operation.{Operation}
use Rattle.operations.specs.declared.operation.Operation.TheVariants as op
use Rattle.operations.specs.Talk.{workers_in}
use Rattle.typed_tree.specs.declared.event.EventKind.{EventKind}
use Rattle.typed_tree.specs.declared.event.EventKind.TheVariants.{Send, Post, Done, Receive, Flush, Wait}
use Rattle.typed_tree.specs.declared.expr.TypedExpr.{TypedExpr, Strict', Implied, Local as Variable, And', Or', Conditional', Elvis', Check', Trap', Function', Parens', out-TypedExpr, fold_out-TypedExpr, Row_of-TypedExpr, end_of-TypedExpr, more_of-TypedExpr, items-the_row-TypedExpr as exprs_in, items_shown-the_row-TypedExpr-0 as exprs-shown}
use Rattle.typed_tree.specs.declared.form.StrictForm.{StrictForm}
use Rattle.typed_tree.specs.declared.form.StrictForm.TheVariants as form
use Rattle.typed_tree.specs.declared.stmt.TypedStmt.{TypedStmt, Set, Perform, Update, If', While', Foreach', Match', Return, Block' as BlockStmt, Break, Continue, out-TypedStmt, fold_out-TypedStmt}
use Rattle.typed_tree.specs.declared.stmt.UpdateTarget.{UpdateTarget}
use Rattle.typed_tree.specs.declared.stmt.UpdateTarget.TheVariants as target
use Rattle.worker_pairing.specs.Events.{is_message}
use Rattle.eval_model.specs.Tasks.{Task, Eval, Exec, Do, Get, Choose, Turn, Guard}
use Rattle.worker_waits.specs.Left.{Shown, Step, Makes, Begins, alternate_shown, by_peer, clause_step, expr_shown, expr_step, exprs_shown, form_shown, guarded, nothing_shown, one_shown, op_shown, ops_shown, stmt_shown, stmt_step, stmts_shown, target_shown, task_shown, tasks_shown, then_shown, wait_shown, within, wrong_shown}

-- ---- lists of steps

abbrev pub lasts : Step → Bool
lasts (Makes e) = is_message e
lasts Begins = true

abbrev pub lasting : List Step → ℕ
lasting [] = 0
lasting (x ∷ xs) = (if lasts x then 1 else 0) + lasting xs

pub lasting-both : (xs ys : List Step) → lasting (xs ++ ys) ≡ lasting xs + lasting ys
lasting-both [] ys = omega arith
lasting-both (x ∷ xs) ys = let h = lasting-both xs ys in omega (arith, h)

none-in : (xs : List Step) → length xs ≡ 0 → xs ≡ []
none-in [] e = refl
none-in (x ∷ xs) e = absurd (omega (arith, e))

pub record Told (a : Shown) : Type 0 where
  pub steps : List Step
  pub own : (k : List Step) → a.own k ≡ steps ++ k
  pub size : a.size ≡ length steps
  pub messages : a.messages ≡ lasting steps

-- ---- what is put together

abbrev pub told-nothing : Told nothing_shown
told-nothing = record { steps = []; own = λ k. refl; size = refl; messages = refl }

pub told-then : (a b : Shown) → Told a → Told b → Told (then_shown a b)
told-then a b A B =
    record {
      steps = A.steps ++ B.steps;
      own = λ k. ap a.own (B.own k) ∙ A.own (B.steps ++ k) ∙ sym (append_assoc A.steps B.steps k);
      size = let x = A.size in let y = B.size in let l = length-append A.steps B.steps in omega (arith, x, y, l);
      messages = let x = A.messages in let y = B.messages in let l = lasting-both A.steps B.steps in omega (arith, x, y, l);
    }

pub told-within : (a : Shown) → Told (within a)
told-within a = record { steps = []; own = λ k. refl; size = refl; messages = refl }

-- what stands in parts of their own, behind something else or alone
told-mute : (w : ℕ) → Told (record { own = λ k. k; size = 0; messages = 0; wrong = w })
told-mute w = record { steps = []; own = λ k. refl; size = refl; messages = refl }

told-before : (a : Shown) (w : ℕ) → Told a → Told (record { own = a.own; size = a.size + 0; messages = a.messages + 0; wrong = a.wrong + w })
told-before a w A = record { steps = A.steps; own = A.own; size = let x = A.size in omega (arith, x); messages = let x = A.messages in omega (arith, x) }

told-guarded : (a : Shown) → Told a → Told (guarded a)
told-guarded a A = record { steps = A.steps; own = A.own; size = A.size; messages = A.messages }

abbrev pub told-wrong : Told wrong_shown
told-wrong = record { steps = []; own = λ k. refl; size = refl; messages = refl }

abbrev pub told-one : (e : EventKind) → Told (one_shown e)
told-one e = record { steps = Makes e ∷ []; own = λ k. refl; size = refl; messages = omega arith }

told-peer : (show : ℕ → Shown) (peer : Option ℕ) → ((w : ℕ) → Told (show w)) → Told (by_peer show peer)
told-peer show (Some w) h = h w
told-peer show None h = told-wrong

abbrev pub told-wait : (ns : List ℕ) → Told (wait_shown ns)
told-wait [] = told-nothing
told-wait (n ∷ ns) = told-one (Wait (n ∷ ns))

abbrev pub told-alternate : (names : List (Option ℕ)) → Told (alternate_shown names)
told-alternate [] = told-wrong
told-alternate (name ∷ names) = told-wait (workers_in (name ∷ names))

-- ---- operations and forms

abbrev pub told-op : (o : Operation) → Told (op_shown o)
told-op (op.Const k) = told-nothing
told-op (op.Load slot) = told-nothing
told-op (op.Store slot) = told-nothing
told-op op.Pop = told-nothing
told-op (op.LoadModule m) = told-nothing
told-op (op.StoreModule m) = told-nothing
told-op op.Tick = told-nothing
told-op op.Add = told-nothing
told-op op.Subtract = told-nothing
told-op op.Multiply = told-nothing
told-op op.Divide = told-nothing
told-op op.Remainder = told-nothing
told-op op.Negate = told-nothing
told-op op.Concat = told-nothing
told-op op.Less = told-nothing
told-op op.LessEqual = told-nothing
told-op op.Not = told-nothing
told-op op.Equal = told-nothing
told-op op.Same = told-nothing
told-op (op.MakeList atom immutable count) = told-nothing
told-op (op.MakeMapping atom immutable count) = told-nothing
told-op (op.MakeError count) = told-nothing
told-op (op.MakeFunction unit count) = told-nothing
told-op op.GetItem = told-nothing
told-op op.GetKey = told-nothing
told-op op.GetChar = told-nothing
told-op (op.GetField name) = told-nothing
told-op (op.GetOptional name) = told-nothing
told-op op.SetItem = told-nothing
told-op op.SetKey = told-nothing
told-op (op.Test t) = told-nothing
told-op (op.Cast t) = told-nothing
told-op (op.Call unit count) = told-nothing
told-op (op.CallValue count) = told-nothing
told-op (op.Library call atom count) = told-nothing
told-op op.Return = told-nothing
told-op op.Panic = told-nothing
told-op (op.Start unit count) = told-nothing
told-op (op.StartValue count) = told-nothing
told-op op.Workers = record { steps = Begins ∷ []; own = λ k. refl; size = refl; messages = refl }
told-op (op.Send w) = told-one (Send (Some w))
told-op (op.Post w) = told-one (Post (Some w))
told-op (op.Done w) = told-one (Done (Some w))
told-op (op.Receive w) = told-one (Receive (Some w))
told-op (op.Flush w) = told-one (Flush (Some w))
told-op (op.WaitWorker w) = told-one (Wait (w ∷ []))
told-op op.WaitFuture = told-nothing
told-op (op.WaitAny names) = told-alternate names
told-op (op.WaitAll atom names) = told-wait (workers_in names)

pub told-ops : (os : List Operation) → Told (ops_shown os)
told-ops [] = told-nothing
told-ops (o ∷ os) = told-then (op_shown o) (ops_shown os) (told-op o) (told-ops os)

pub told-form : (f : StrictForm) → Told (form_shown f)
told-form (form.Literal c) = told-nothing
told-form (form.Constant c) = told-nothing
told-form (form.Variable m) = told-nothing
told-form (form.FunctionName unit) = told-nothing
told-form (form.Operator o) = told-nothing
told-form (form.Is t) = told-nothing
told-form (form.Cast t) = told-nothing
told-form (form.List atom immutable) = told-nothing
told-form (form.Mapping atom immutable) = told-nothing
told-form form.Error = told-nothing
told-form (form.Read how) = told-nothing
told-form (form.Call called) = told-nothing
told-form (form.Library call atom cast) = told-nothing
told-form (form.Start called) = told-nothing
told-form (form.Send peer) = told-peer (λ w. one_shown (Send (Some w))) peer (λ w. told-one (Send (Some w)))
told-form (form.SyncSend peer) = told-peer (λ w. then_shown (one_shown (Post (Some w))) (one_shown (Done (Some w)))) peer (λ w. told-then _ _ (told-one (Post (Some w))) (told-one (Done (Some w))))
told-form (form.Receive peer) = told-peer (λ w. one_shown (Receive (Some w))) peer (λ w. told-one (Receive (Some w)))
told-form (form.Flush peer) = told-peer (λ w. one_shown (Flush (Some w))) peer (λ w. told-one (Flush (Some w)))
told-form (form.WaitAny names) = told-alternate names
told-form (form.WaitAll atom names) = told-wait (workers_in names)

-- ---- expressions

told-by : {a b : Shown} → a ≡ b → Told b → Told a
told-by e h = subst Told (sym e) h

mutual
  unfolding out-TypedExpr Carrier.out

  pub told-expr : (e : TypedExpr) → Told (expr_shown e)
  told-expr (Implied value type at) = told-by (fold_out-TypedExpr Shown expr_step (Implied value type at)) told-nothing
  told-expr (Variable slot narrowed type at) = told-by (fold_out-TypedExpr Shown expr_step (Variable slot narrowed type at)) told-nothing
  told-expr (And' s left t right type at) = told-by (fold_out-TypedExpr Shown expr_step (And' s left t right type at)) (told-then (expr_shown left) (within (expr_shown right)) (told-expr left) (told-within (expr_shown right)))
  told-expr (Or' s left t right type at) = told-by (fold_out-TypedExpr Shown expr_step (Or' s left t right type at)) (told-then (expr_shown left) (within (expr_shown right)) (told-expr left) (told-within (expr_shown right)))
  told-expr (Conditional' s condition t middle u last type at) =
      told-by (fold_out-TypedExpr Shown expr_step (Conditional' s condition t middle u last type at))
      (told-then (expr_shown condition) (then_shown (within (expr_shown middle)) (within (expr_shown last))) (told-expr condition) (told-then (within (expr_shown middle)) (within (expr_shown last)) (told-within (expr_shown middle)) (told-within (expr_shown last))))
  told-expr (Elvis' own s left t right type at) = told-by (fold_out-TypedExpr Shown expr_step (Elvis' own s left t right type at)) (told-then (expr_shown left) (within (expr_shown right)) (told-expr left) (told-within (expr_shown right)))
  told-expr (Check' ends own s operand type at) = told-by (fold_out-TypedExpr Shown expr_step (Check' ends own s operand type at)) (told-expr operand)
  told-expr (Trap' s operand type at) = told-by (fold_out-TypedExpr Shown expr_step (Trap' s operand type at)) (told-guarded (expr_shown operand) (told-expr operand))
  told-expr (Parens' s inner type at) = told-by (fold_out-TypedExpr Shown expr_step (Parens' s inner type at)) (told-expr inner)
  told-expr (Function' function s value type at) = told-by (fold_out-TypedExpr Shown expr_step (Function' function s value type at)) told-nothing
  told-expr (Strict' f shape operands type at) =
      told-by (fold_out-TypedExpr Shown expr_step (Strict' f shape operands type at))
      (subst (λ es. Told (then_shown (exprs_shown es) (form_shown f))) (sym (exprs-shown shape operands))
      (told-then (exprs_shown (exprs_in _ operands)) (form_shown f) (told-row operands) (told-form f)))

  told-row : {n : _} (row : Row_of-TypedExpr n) → Told (exprs_shown (exprs_in _ row))
  told-row end_of-TypedExpr = told-nothing
  told-row (more_of-TypedExpr e rest) = told-then (expr_shown e) (exprs_shown (exprs_in _ rest)) (told-expr e) (told-row rest)

pub told-exprs : (es : List TypedExpr) → Told (exprs_shown es)
told-exprs [] = told-nothing
told-exprs (e ∷ es) = told-then (expr_shown e) (exprs_shown es) (told-expr e) (told-exprs es)

-- ---- statements

told-target : (t : UpdateTarget) → Told (target_shown t)
told-target (target.Local slot narrowed type) = told-nothing
told-target (target.Variable m) = told-nothing
told-target (target.Member own how container key type) = told-then (expr_shown container.value) (expr_shown key.value) (told-expr container.value) (told-expr key.value)

mutual
  unfolding out-TypedStmt Carrier.out

  pub told-stmt : (s : TypedStmt) → Told (stmt_shown s)
  told-stmt (Set slot value at) = told-by (fold_out-TypedStmt Shown Shown stmt_step clause_step (Set slot value at)) (told-expr value.value)
  told-stmt (Perform form operands at) = told-by (fold_out-TypedStmt Shown Shown stmt_step clause_step (Perform form operands at)) (told-exprs operands.items)
  told-stmt (Update t op value at) = told-by (fold_out-TypedStmt Shown Shown stmt_step clause_step (Update t op value at)) (told-then (target_shown t) (expr_shown value.value) (told-target t) (told-expr value.value))
  told-stmt (If' condition shape first shape' second at) = told-by (fold_out-TypedStmt Shown Shown stmt_step clause_step (If' condition shape first shape' second at)) (told-before (expr_shown condition.value) _ (told-expr condition.value))
  told-stmt (While' condition shape body at) = told-by (fold_out-TypedStmt Shown Shown stmt_step clause_step (While' condition shape body at)) (told-mute _)
  told-stmt (Foreach' slot source shape body at) = told-by (fold_out-TypedStmt Shown Shown stmt_step clause_step (Foreach' slot source shape body at)) (told-mute _)
  told-stmt (Match' own subject shape clauses at) = told-by (fold_out-TypedStmt Shown Shown stmt_step clause_step (Match' own subject shape clauses at)) (told-before (expr_shown subject.value) _ (told-expr subject.value))
  told-stmt (Return None at) = told-by (fold_out-TypedStmt Shown Shown stmt_step clause_step (Return None at)) told-nothing
  told-stmt (Return (Some e) at) = told-by (fold_out-TypedStmt Shown Shown stmt_step clause_step (Return (Some e) at)) (told-expr e.value)
  told-stmt (BlockStmt shape stmts at) = told-by (fold_out-TypedStmt Shown Shown stmt_step clause_step (BlockStmt shape stmts at)) (told-mute _)
  told-stmt (Break at) = told-by (fold_out-TypedStmt Shown Shown stmt_step clause_step (Break at)) told-nothing
  told-stmt (Continue at) = told-by (fold_out-TypedStmt Shown Shown stmt_step clause_step (Continue at)) told-nothing

pub told-stmts : (ss : List TypedStmt) → Told (stmts_shown ss)
told-stmts [] = told-nothing
told-stmts (s ∷ ss) = told-then (stmt_shown s) (stmts_shown ss) (told-stmt s) (told-stmts ss)

-- ---- tasks

pub told-task : (t : Task) → Told (task_shown t)
told-task (Eval e) = told-expr e
told-task (Exec s) = told-stmt s
told-task (Do o) = told-op o
told-task (Get slot narrowed) = told-nothing
told-task (Choose first second) = told-mute _
told-task (Turn loop) = told-mute _
told-task (Guard vs) = told-nothing

pub told-tasks : (ts : List Task) → Told (tasks_shown ts)
told-tasks [] = told-nothing
told-tasks (t ∷ ts) = told-then (task_shown t) (tasks_shown ts) (told-task t) (told-tasks ts)

-- ---- what shows no steps leaves what follows as it is, and what shows the same shows as many

abbrev pub Fair : Shown → Type 0
Fair a = a.size ≡ 0 → (k : List Step) → a.own k ≡ k

pub fair : (a : Shown) → Told a → Fair a
fair a A none k = let s = A.size in A.own k ∙ ap (λ x. x ++ k) (none-in A.steps (omega (arith, none, s)))

at-end : (xs : List Step) → xs ++ [] ≡ xs
at-end [] = refl
at-end (x ∷ xs) = ap (λ l. x ∷ l) (at-end xs)

pub same-sizes : (a b : Shown) → Told a → Told b → ((k : List Step) → a.own k ≡ b.own k) → (a.size ≡ b.size) × (a.messages ≡ b.messages)
same-sizes a b A B same =
    let e : A.steps ≡ B.steps = sym (at-end A.steps) ∙ sym (A.own []) ∙ same [] ∙ B.own [] ∙ at-end B.steps in
    (A.size ∙ ap length e ∙ sym B.size, A.messages ∙ ap lasting e ∙ sym B.messages)
