-- Where a frame takes a tree apart, nothing that is shown comes in front of a loop's next turn, nor a message in front of a trap's end.
use Rattle.std.proofs.Common.{◌≡◌, ◌≤◌, ◌⊎◌, ◌+◌, ◌∙◌, ℕ, List, [], ◌∷◌, Option, Some, None, map, refl, sym, subst, ap, arith, inl, inr, true, false}
use denote.Hole.Carrier
use Rattle.operations.specs.declared.operation.Constant.{Constant}
use Rattle.operations.specs.declared.operation.Operation.{Operation}
use Rattle.operations.specs.declared.operation.Operation.TheVariants.{Load, Store, StoreModule}
use Rattle.value_model.specs.declared.value.Value.{Value}
use Rattle.typed_tree.specs.declared.expr.TypedExpr.{TypedExpr, Strict', Implied, Local as Variable, And', Or', Conditional', Elvis', Check', Trap', Function', Parens', out-TypedExpr, fold_out-TypedExpr}
use Rattle.typed_tree.specs.declared.form.Operator.{Operator}
use Rattle.typed_tree.specs.declared.form.StrictForm.{StrictForm}
use Rattle.typed_tree.specs.declared.stmt.PerformForm.{PerformForm}
use Rattle.typed_tree.specs.declared.stmt.RangeEnd.TheVariants.{Included, Excluded}
use Rattle.typed_tree.specs.declared.stmt.Source.TheVariants.{Range, List as ListSource}
use Rattle.typed_tree.specs.declared.stmt.TypedClause.{TypedClause}
use Rattle.typed_tree.specs.declared.stmt.TypedStmt.{TypedStmt, Set, Perform, Update, If', While', Foreach', Match', Return, Block' as BlockStmt, Break, Continue, out-TypedStmt, fold_out-TypedStmt}
use Rattle.typed_tree.specs.declared.stmt.UpdateTarget.{UpdateTarget}
use Rattle.typed_tree.specs.declared.stmt.UpdateTarget.TheVariants as target
use Rattle.typed_tree.specs.declared.unit.Captured.{Captured}
use Rattle.held_operations.specs.Constructs.{operations_of, operator_operations, perform_operations}
use Rattle.eval_model.specs.Expressions.{captures, eval, makes_function}
use Rattle.eval_model.specs.Loops.{behind_loop, from_loop, round, turn}
use Rattle.eval_model.specs.Statements.{branch, exec, match_rows, reads_member, rows, sets_member, tries_row, updates}
use Rattle.eval_model.specs.Tasks.{Branch, Whole, These, Kept, Block, Round, Rows, MatchRow, Loop, AsLongAs, OverRange, OverList, Task, Eval, Exec, Do, Get, Choose, Turn, Guard, dos, evals, execs}
use Rattle.worker_waits.specs.Left.{AheadOf, Lasts, Shown, Step, all_shown, branch_shown, clause_step, expr_shown, expr_step, exprs_shown, form_shown, loop_shown, nothing_shown, op_shown, ops_shown, stmt_shown, stmt_step, stmts_shown, target_shown, task_shown, tasks_shown, then_shown, within}
use Rattle.worker_waits.proofs.Left.{eval-shows, form-shows, operator-shows}
use Rattle.worker_waits.proofs.LeftStmts.{IsPlain, None-of, branch-shows, clause_shows, clauses-none, exec-shows, perform-shows, reads-show, rows_shown, sets-show, turn-shows}
use Rattle.worker_waits.proofs.Told.{Told, fair, same-sizes, told-expr, told-form, told-nothing, told-ops, told-stmts, told-task}

-- ---- less in front

pub ahead-less : (ts : List Task) (n m x y : ℕ) → x ≤ n → y ≤ m → AheadOf n m ts → AheadOf x y ts
ahead-less [] n m x y le me h = tt
ahead-less (Turn loop ∷ ts) n m x y le me (none, h) = (omega (arith, none, le), ahead-less ts n m x y le me h)
ahead-less (Guard vs ∷ ts) n m x y le me (none, h) = (omega (arith, none, me), ahead-less ts n m x y le me h)
ahead-less (Eval e ∷ ts) n m x y le me h = ahead-less ts _ _ _ _ (omega (arith, le)) (omega (arith, me)) h
ahead-less (Exec s ∷ ts) n m x y le me h = ahead-less ts _ _ _ _ (omega (arith, le)) (omega (arith, me)) h
ahead-less (Do o ∷ ts) n m x y le me h = ahead-less ts _ _ _ _ (omega (arith, le)) (omega (arith, me)) h
ahead-less (Get slot narrowed ∷ ts) n m x y le me h = ahead-less ts n m x y le me h
ahead-less (Choose first second ∷ ts) n m x y le me h = ahead-less ts n m x y le me h

-- ---- one after another

pub dos-ahead : (ops : List Operation) (ts : List Task) (n m : ℕ) → AheadOf (n + (ops_shown ops).size) (m + (ops_shown ops).messages) ts → AheadOf n m (dos ops ts)
dos-ahead [] ts n m h = ahead-less ts _ _ _ _ (omega arith) (omega arith) h
dos-ahead (o ∷ ops) ts n m h = dos-ahead ops ts _ _ (ahead-less ts _ _ _ _ (omega arith) (omega arith) h)

pub evals-ahead : (es : List TypedExpr) (ts : List Task) (n m : ℕ) → AheadOf (n + (exprs_shown es).size) (m + (exprs_shown es).messages) ts → AheadOf n m (evals es ts)
evals-ahead [] ts n m h = ahead-less ts _ _ _ _ (omega arith) (omega arith) h
evals-ahead (e ∷ es) ts n m h = evals-ahead es ts _ _ (ahead-less ts _ _ _ _ (omega arith) (omega arith) h)

pub execs-ahead : (ss : List TypedStmt) (ts : List Task) (n m : ℕ) → AheadOf (n + (stmts_shown ss).size) (m + (stmts_shown ss).messages) ts → AheadOf n m (execs ss ts)
execs-ahead [] ts n m h = ahead-less ts _ _ _ _ (omega arith) (omega arith) h
execs-ahead (s ∷ ss) ts n m h = execs-ahead ss ts _ _ (ahead-less ts _ _ _ _ (omega arith) (omega arith) h)

captures-ahead : (cs : List Captured) (ts : List Task) (n m : ℕ) → AheadOf n m ts → AheadOf n m (captures cs ts)
captures-ahead [] ts n m h = h
captures-ahead (c ∷ cs) ts n m h = captures-ahead cs ts n m h

-- ---- how much operations show

abbrev SameAs : Shown → Shown → Type 0
SameAs a b = (a.size ≡ b.size) × (a.messages ≡ b.messages)

operator-sizes : (o : Operator) → SameAs (ops_shown (operator_operations o)) nothing_shown
operator-sizes o = same-sizes _ nothing_shown (told-ops (operator_operations o)) told-nothing (operator-shows o refl).1

perform-sizes : (f : PerformForm) → SameAs (ops_shown (perform_operations f)) nothing_shown
perform-sizes f = same-sizes _ nothing_shown (told-ops (perform_operations f)) told-nothing (perform-shows f refl).1

form-sizes : (f : StrictForm) (n : ℕ) → (form_shown f).wrong ≡ 0 → SameAs (ops_shown (operations_of f n)) (form_shown f)
form-sizes f n none = same-sizes _ (form_shown f) (told-ops (operations_of f n)) (told-form f) (form-shows f n none).1

-- ---- expressions

strict-ahead : (f : StrictForm) (es : List TypedExpr) (n : ℕ) (ts : List Task) → (then_shown (exprs_shown es) (form_shown f)).wrong ≡ 0 → AheadOf ((exprs_shown es).size + (form_shown f).size) ((exprs_shown es).messages + (form_shown f).messages) ts → AheadOf 0 0 (evals es (dos (operations_of f n) ts))
strict-ahead f es n ts none h =
    let same = form-sizes f n (omega (arith, none)) in
    let s0 = same.0 in
    let s1 = same.1 in
    evals-ahead es _ 0 0 (dos-ahead (operations_of f n) ts _ _ (ahead-less ts _ _ _ _ (omega (arith, s0)) (omega (arith, s1)) h))

-- a way to take something apart that shows this leaves in front as much
abbrev Keeps : Shown → List Task → List Task → Type 0
Keeps a ts new = a.wrong ≡ 0 → AheadOf a.size a.messages ts → AheadOf 0 0 new

by-layer : {a b : Shown} (ts new : List Task) → a ≡ b → Keeps b ts new → Keeps a ts new
by-layer ts new e h = subst (λ x. Keeps x ts new) (sym e) h

mutual
  unfolding out-TypedExpr Carrier.out

  pub eval-ahead : (e : TypedExpr) (vs : List Value) (ts : List Task) → Keeps (expr_shown e) ts (eval e vs ts)
  eval-ahead (Implied value type at) vs ts = by-layer ts (eval (Implied value type at) vs ts) (fold_out-TypedExpr Shown expr_step (Implied value type at)) (λ none h. ahead-less ts _ _ _ _ (omega arith) (omega arith) h)
  eval-ahead (Variable slot narrowed type at) vs ts = by-layer ts (eval (Variable slot narrowed type at) vs ts) (fold_out-TypedExpr Shown expr_step (Variable slot narrowed type at)) (λ none h. ahead-less ts _ _ _ _ (omega arith) (omega arith) h)
  eval-ahead (And' s left t right type at) vs ts = by-layer ts (eval (And' s left t right type at) vs ts) (fold_out-TypedExpr Shown expr_step (And' s left t right type at)) (λ none h. ahead-less ts _ _ _ _ (omega arith) (omega arith) h)
  eval-ahead (Or' s left t right type at) vs ts = by-layer ts (eval (Or' s left t right type at) vs ts) (fold_out-TypedExpr Shown expr_step (Or' s left t right type at)) (λ none h. ahead-less ts _ _ _ _ (omega arith) (omega arith) h)
  eval-ahead (Conditional' s condition t middle u last type at) vs ts = by-layer ts (eval (Conditional' s condition t middle u last type at) vs ts) (fold_out-TypedExpr Shown expr_step (Conditional' s condition t middle u last type at)) (λ none h. ahead-less ts _ _ _ _ (omega arith) (omega arith) h)
  eval-ahead (Elvis' own s left t right type at) vs ts = by-layer ts (eval (Elvis' own s left t right type at) vs ts) (fold_out-TypedExpr Shown expr_step (Elvis' own s left t right type at)) (λ none h. ahead-less ts _ _ _ _ (omega arith) (omega arith) h)
  eval-ahead (Check' true own s operand type at) vs ts = by-layer ts (eval (Check' true own s operand type at) vs ts) (fold_out-TypedExpr Shown expr_step (Check' true own s operand type at)) (λ none h. ahead-less ts _ _ _ _ (omega arith) (omega arith) h)
  eval-ahead (Check' false own s operand type at) vs ts = by-layer ts (eval (Check' false own s operand type at) vs ts) (fold_out-TypedExpr Shown expr_step (Check' false own s operand type at)) (λ none h. ahead-less ts _ _ _ _ (omega arith) (omega arith) h)
  eval-ahead (Parens' s inner type at) vs ts = by-layer ts (eval (Parens' s inner type at) vs ts) (fold_out-TypedExpr Shown expr_step (Parens' s inner type at)) (λ none h. ahead-less ts _ _ _ _ (omega arith) (omega arith) h)
  eval-ahead (Trap' s operand type at) vs ts = by-layer ts (eval (Trap' s operand type at) vs ts) (fold_out-TypedExpr Shown expr_step (Trap' s operand type at)) (λ none h. (omega (arith, none), ahead-less ts _ _ _ _ (omega arith) (omega arith) h))
  eval-ahead (Function' function s value type at) vs ts = by-layer ts (eval (Function' function s value type at) vs ts) (fold_out-TypedExpr Shown expr_step (Function' function s value type at)) (λ none h. captures-ahead function.value.captured (Do (makes_function function.value) ∷ ts) 0 0 h)
  eval-ahead (Strict' f shape operands type at) vs ts = by-layer ts (eval (Strict' f shape operands type at) vs ts) (fold_out-TypedExpr Shown expr_step (Strict' f shape operands type at)) (strict-ahead f _ _ ts)

-- ---- statements

stores-ahead : (value : TypedExpr) (o : Operator) (store : Operation) (ts : List Task) (n m : ℕ) → op_shown store ≡ nothing_shown → AheadOf (n + (expr_shown value).size) (m + (expr_shown value).messages) ts → AheadOf n m (Eval value ∷ dos (operator_operations o) (Do store ∷ ts))
stores-ahead value o store ts n m is h =
    let same = operator-sizes o in
    let s0 = same.0 in
    let s1 = same.1 in
    let z0 : (op_shown store).size ≡ 0 = ap (λ x. x.size) is in
    let z1 : (op_shown store).messages ≡ 0 = ap (λ x. x.messages) is in
    dos-ahead (operator_operations o) (Do store ∷ ts) _ _ (ahead-less ts _ _ _ _ (omega (arith, s0, z0)) (omega (arith, s1, z1)) h)

updates-ahead : (t : UpdateTarget) (o : Operator) (value : TypedExpr) (ts : List Task) → Keeps (then_shown (target_shown t) (expr_shown value)) ts (updates t o value ts)
updates-ahead (target.Local slot narrowed type) o value ts none h = stores-ahead value o (Store slot) ts 0 0 refl (ahead-less ts _ _ _ _ (omega arith) (omega arith) h)
updates-ahead (target.Variable m) o value ts none h = stores-ahead value o (StoreModule m) ts _ _ refl (ahead-less ts _ _ _ _ (omega arith) (omega arith) h)
updates-ahead (target.Member own how container key type) o value ts none h =
    let same = same-sizes _ nothing_shown (told-ops (Load own ∷ Load (own + 1) ∷ reads_member how own)) told-nothing (reads-show how own refl).1 in
    let s0 = same.0 in
    let s1 = same.1 in
    dos-ahead (Load own ∷ Load (own + 1) ∷ reads_member how own) (Eval value ∷ dos (operator_operations o) (Do (sets_member how) ∷ ts)) _ _
    (stores-ahead value o (sets_member how) ts _ _ (sets-show how) (ahead-less ts _ _ _ _ (omega (arith, s0)) (omega (arith, s1)) h))

performs-ahead : (f : PerformForm) (es : List TypedExpr) (ts : List Task) → Keeps (exprs_shown es) ts (evals es (dos (perform_operations f) ts))
performs-ahead f es ts none h =
    let same = perform-sizes f in
    let s0 = same.0 in
    let s1 = same.1 in
    evals-ahead es _ 0 0 (dos-ahead (perform_operations f) ts _ _ (ahead-less ts _ _ _ _ (omega (arith, s0)) (omega (arith, s1)) h))

-- what shows no steps has no messages either
no-messages : (a : Shown) → Told a → a.size ≡ 0 → a.messages ≡ 0
no-messages a A none = let s = same-sizes a nothing_shown A told-nothing (fair a A none) in s.1

pub block-ahead : (ss : List TypedStmt) (ts : List Task) (n m : ℕ) → (stmts_shown ss).size ≡ 0 → AheadOf n m ts → AheadOf n m (execs ss ts)
block-ahead ss ts n m none h = let z = no-messages (stmts_shown ss) (told-stmts ss) none in execs-ahead ss ts n m (ahead-less ts _ _ _ _ (omega (arith, none)) (omega (arith, z)) h)

blocks-ahead : (ss : List TypedStmt) (ts : List Task) → Keeps (within (stmts_shown ss)) ts (execs ss ts)
blocks-ahead ss ts none h = block-ahead ss ts 0 0 (omega (arith, none)) h

tries-ahead : (own : ℕ) (pattern : Option Constant) (body : List TypedStmt) (more : List MatchRow) (ts : List Task) (n m : ℕ) → None-of (then_shown (stmts_shown body) (rows_shown more)) → AheadOf n m ts → AheadOf n m (tries_row own pattern body more ts)
tries-ahead own (Some c) body more ts n m none h = ahead-less ts _ _ _ _ (omega arith) (omega arith) h
tries-ahead own None body more ts n m none h = block-ahead body ts n m (omega (arith, none)) h

rows-ahead : (own : ℕ) (rs : List MatchRow) (ts : List Task) (n m : ℕ) → None-of (rows_shown rs) → AheadOf n m ts → AheadOf n m (rows own rs ts)
rows-ahead own [] ts n m none h = h
rows-ahead own (r ∷ more) ts n m none h = tries-ahead own r.pattern r.body more ts n m none h

matches-ahead : (own : ℕ) (subject : TypedExpr) (cs : List TypedClause) (ts : List Task) → Keeps (then_shown (expr_shown subject) (within (all_shown (map clause_shows cs)))) ts (Eval subject ∷ Do (Store own) ∷ rows own (match_rows cs) ts)
matches-ahead own subject cs ts none h = rows-ahead own (match_rows cs) ts _ _ (clauses-none cs (omega (arith, none))) (ahead-less ts _ _ _ _ (omega arith) (omega arith) h)

source-ahead : (e : TypedExpr) → (expr_shown e).size ≡ 0 → (expr_shown e).messages ≡ 0
source-ahead e none = no-messages (expr_shown e) (told-expr e) none

mutual
  unfolding out-TypedStmt Carrier.out

  pub exec-ahead : (s : TypedStmt) → IsPlain s → (ts : List Task) → Keeps (stmt_shown s) ts (exec s ts)
  exec-ahead (Set slot value at) plain ts = by-layer ts (exec (Set slot value at) ts) (fold_out-TypedStmt Shown Shown stmt_step clause_step (Set slot value at)) (λ none h. ahead-less ts _ _ _ _ (omega arith) (omega arith) h)
  exec-ahead (Perform form operands at) plain ts = by-layer ts (exec (Perform form operands at) ts) (fold_out-TypedStmt Shown Shown stmt_step clause_step (Perform form operands at)) (performs-ahead form operands.items ts)
  exec-ahead (Update t op value at) plain ts = by-layer ts (exec (Update t op value at) ts) (fold_out-TypedStmt Shown Shown stmt_step clause_step (Update t op value at)) (updates-ahead t op value.value ts)
  exec-ahead (If' condition shape first shape' second at) plain ts = by-layer ts (exec (If' condition shape first shape' second at) ts) (fold_out-TypedStmt Shown Shown stmt_step clause_step (If' condition shape first shape' second at)) (λ none h. ahead-less ts _ _ _ _ (omega arith) (omega arith) h)
  exec-ahead (While' condition shape body at) plain ts = by-layer ts (exec (While' condition shape body at) ts) (fold_out-TypedStmt Shown Shown stmt_step clause_step (While' condition shape body at)) (λ none h. (refl, h))
  exec-ahead (Foreach' slot (Range own Included from to) shape body at) plain ts = by-layer ts (exec (Foreach' slot (Range own Included from to) shape body at) ts) (fold_out-TypedStmt Shown Shown stmt_step clause_step (Foreach' slot (Range own Included from to) shape body at)) (λ none h. let f : (expr_shown from.value).size ≡ 0 = omega (arith, none) in let g : (expr_shown to.value).size ≡ 0 = omega (arith, none) in let x = source-ahead from.value f in let y = source-ahead to.value g in (omega (arith, f, g), ahead-less ts _ _ _ _ (omega (arith, f, g)) (omega (arith, x, y)) h))
  exec-ahead (Foreach' slot (Range own Excluded from to) shape body at) plain ts = by-layer ts (exec (Foreach' slot (Range own Excluded from to) shape body at) ts) (fold_out-TypedStmt Shown Shown stmt_step clause_step (Foreach' slot (Range own Excluded from to) shape body at)) (λ none h. let f : (expr_shown from.value).size ≡ 0 = omega (arith, none) in let g : (expr_shown to.value).size ≡ 0 = omega (arith, none) in let x = source-ahead from.value f in let y = source-ahead to.value g in (omega (arith, f, g), ahead-less ts _ _ _ _ (omega (arith, f, g)) (omega (arith, x, y)) h))
  exec-ahead (Foreach' slot (ListSource own list) shape body at) plain ts = by-layer ts (exec (Foreach' slot (ListSource own list) shape body at) ts) (fold_out-TypedStmt Shown Shown stmt_step clause_step (Foreach' slot (ListSource own list) shape body at)) (λ none h. let f : (expr_shown list.value).size ≡ 0 = omega (arith, none) in let x = source-ahead list.value f in (omega (arith, f), ahead-less ts _ _ _ _ (omega (arith, f)) (omega (arith, x)) h))
  exec-ahead (Match' own subject shape clauses at) plain ts = by-layer ts (exec (Match' own subject shape clauses at) ts) (fold_out-TypedStmt Shown Shown stmt_step clause_step (Match' own subject shape clauses at)) (matches-ahead own subject.value _ ts)
  exec-ahead (Return None at) plain ts = by-layer ts (exec (Return None at) ts) (fold_out-TypedStmt Shown Shown stmt_step clause_step (Return None at)) (λ none h. ahead-less ts _ _ _ _ (omega arith) (omega arith) h)
  exec-ahead (Return (Some e) at) plain ts = by-layer ts (exec (Return (Some e) at) ts) (fold_out-TypedStmt Shown Shown stmt_step clause_step (Return (Some e) at)) (λ none h. ahead-less ts _ _ _ _ (omega arith) (omega arith) h)
  exec-ahead (BlockStmt shape stmts at) plain ts = by-layer ts (exec (BlockStmt shape stmts at) ts) (fold_out-TypedStmt Shown Shown stmt_step clause_step (BlockStmt shape stmts at)) (blocks-ahead _ ts)
  exec-ahead (Break at) plain ts = absurd plain
  exec-ahead (Continue at) plain ts = absurd plain

-- ---- loops and branches

pub turn-ahead : (loop : Loop) (ts : List Task) → None-of (loop_shown loop) → AheadOf 0 0 ts → AheadOf 0 0 (turn loop ts)
turn-ahead (AsLongAs condition body) ts none h = let f : (expr_shown condition).size ≡ 0 = omega (arith, none) in let x = source-ahead condition f in ahead-less ts _ _ _ _ (omega (arith, f)) (omega (arith, x)) h
turn-ahead (OverRange Included slot own body) ts none h = h
turn-ahead (OverRange Excluded slot own body) ts none h = h
turn-ahead (OverList slot own body) ts none h = h

round-ahead : (loop : Loop) (ts : List Task) → None-of (loop_shown loop) → AheadOf 0 0 ts → AheadOf 0 0 (round loop (Turn loop ∷ ts))
round-ahead (AsLongAs condition body) ts none h = block-ahead body (Turn (AsLongAs condition body) ∷ ts) 0 0 (omega (arith, none)) (refl, h)
round-ahead (OverRange Included slot own body) ts none h = block-ahead body (Turn (OverRange Included slot own body) ∷ ts) 0 0 (omega (arith, none)) (refl, h)
round-ahead (OverRange Excluded slot own body) ts none h = block-ahead body (Turn (OverRange Excluded slot own body) ∷ ts) 0 0 (omega (arith, none)) (refl, h)
round-ahead (OverList slot own body) ts none h = block-ahead body (Turn (OverList slot own body) ∷ ts) 0 0 (omega (arith, none)) (refl, h)

ops-ahead : (ops : List Operation) (ts : List Task) → None-of (ops_shown ops) → AheadOf 0 0 ts → AheadOf 0 0 (dos ops ts)
ops-ahead ops ts none h =
    let f : (ops_shown ops).size ≡ 0 = omega (arith, none) in
    let z = no-messages (ops_shown ops) (told-ops ops) f in
    dos-ahead ops ts 0 0 (ahead-less ts _ _ _ _ (omega (arith, f)) (omega (arith, z)) h)

pub branch-ahead : (b : Branch) (ts : List Task) → None-of (branch_shown b) → AheadOf 0 0 ts → AheadOf 0 0 (branch b ts)
branch-ahead (Whole e) ts none h = let f : (expr_shown e).size ≡ 0 = omega (arith, none) in let z = source-ahead e f in ahead-less ts _ _ _ _ (omega (arith, f)) (omega (arith, z)) h
branch-ahead (These ops) ts none h = ops-ahead ops ts none h
branch-ahead (Kept slot type ops) ts none h = ops-ahead ops ts none h
branch-ahead (Block body) ts none h = block-ahead body ts 0 0 (omega (arith, none)) h
branch-ahead (Round loop) ts none h = round-ahead loop ts none h
branch-ahead (Rows own rs) ts none h = rows-ahead own rs ts 0 0 none h

-- ---- what is left

-- behind a task that shows no steps
pub drops : (t : Task) (ts : List Task) (steps : List Step) → (task_shown t).size ≡ 0 → (tasks_shown (t ∷ ts)).wrong ≡ 0 → (tasks_shown (t ∷ ts)).own [] ≡ steps → AheadOf 0 0 ts → Lasts ts steps
drops t ts steps none right left ahead = record { wrong = omega (arith, right); left = sym (fair (task_shown t) (told-task t) none _) ∙ left; ahead = ahead }

pub eval-lasts : (e : TypedExpr) (vs : List Value) (ts : List Task) (steps : List Step) → Lasts (Eval e ∷ ts) steps → Lasts (eval e vs ts) steps
eval-lasts e vs ts steps h =
    let w = h.wrong in
    let s = eval-shows e vs ts w in
    record { wrong = s.0; left = s.1 [] ∙ h.left; ahead = eval-ahead e vs ts (omega (arith, w)) (ahead-less ts _ _ _ _ (omega arith) (omega arith) h.ahead) }

plain-lasts : (s : TypedStmt) → IsPlain s → (ts : List Task) (steps : List Step) → Lasts (Exec s ∷ ts) steps → Lasts (exec s ts) steps
plain-lasts s plain ts steps h =
    let w = h.wrong in
    let x = exec-shows s plain ts w in
    record { wrong = x.0; left = x.1 [] ∙ h.left; ahead = exec-ahead s plain ts (omega (arith, w)) (ahead-less ts _ _ _ _ (omega arith) (omega arith) h.ahead) }

-- a task more in front
abbrev Behind : (List Task → List Task) → List Task → ℕ → Type 0
Behind leave ts n = (leave ts ≡ []) ⊎ ((n ≡ 0) × Lasts (leave ts) ((tasks_shown ts).own []))

onward : (leave : List Task → List Task) (t : Task) (ts : List Task) (n : ℕ) → leave (t ∷ ts) ≡ leave ts → Behind leave ts (n + (task_shown t).size) → Behind leave (t ∷ ts) n
onward leave t ts n same (inl e) = inl (same ∙ e)
onward leave t ts n same (inr (none, h)) =
    let f : (task_shown t).size ≡ 0 = omega (arith, none) in
    inr (omega (arith, none), record { wrong = ap (λ x. (tasks_shown x).wrong) same ∙ h.wrong; left = ap (λ x. (tasks_shown x).own []) same ∙ h.left ∙ sym (fair (task_shown t) (told-task t) f _); ahead = subst (λ x. AheadOf 0 0 x) (sym same) h.ahead })

-- in front of the next turn of a loop nothing is left
pub behind-lasts : (ts : List Task) (n m : ℕ) → AheadOf n m ts → (tasks_shown ts).wrong ≡ 0 → Behind behind_loop ts n
behind-lasts [] n m h w = inl refl
behind-lasts (Turn loop ∷ ts) n m (none, h) w = inr (none, record { wrong = omega (arith, w); left = refl; ahead = ahead-less ts _ _ _ _ (omega arith) (omega arith) h })
behind-lasts (Eval e ∷ ts) n m h w = onward behind_loop (Eval e) ts n refl (behind-lasts ts _ _ h (omega (arith, w)))
behind-lasts (Exec s ∷ ts) n m h w = onward behind_loop (Exec s) ts n refl (behind-lasts ts _ _ h (omega (arith, w)))
behind-lasts (Do o ∷ ts) n m h w = onward behind_loop (Do o) ts n refl (behind-lasts ts _ _ h (omega (arith, w)))
behind-lasts (Get slot narrowed ∷ ts) n m h w = behind-lasts ts n m h (omega (arith, w))
behind-lasts (Choose first second ∷ ts) n m h w = behind-lasts ts n m h (omega (arith, w))
behind-lasts (Guard vs ∷ ts) n m (none, h) w = behind-lasts ts n m h (omega (arith, w))

pub from-lasts : (ts : List Task) (n m : ℕ) → AheadOf n m ts → (tasks_shown ts).wrong ≡ 0 → Behind from_loop ts n
from-lasts [] n m h w = inl refl
from-lasts (Turn loop ∷ ts) n m (none, h) w = inr (none, record { wrong = w; left = refl; ahead = (refl, ahead-less ts _ _ _ _ (omega arith) (omega arith) h) })
from-lasts (Eval e ∷ ts) n m h w = onward from_loop (Eval e) ts n refl (from-lasts ts _ _ h (omega (arith, w)))
from-lasts (Exec s ∷ ts) n m h w = onward from_loop (Exec s) ts n refl (from-lasts ts _ _ h (omega (arith, w)))
from-lasts (Do o ∷ ts) n m h w = onward from_loop (Do o) ts n refl (from-lasts ts _ _ h (omega (arith, w)))
from-lasts (Get slot narrowed ∷ ts) n m h w = from-lasts ts n m h (omega (arith, w))
from-lasts (Choose first second ∷ ts) n m h w = from-lasts ts n m h (omega (arith, w))
from-lasts (Guard vs ∷ ts) n m (none, h) w = from-lasts ts n m h (omega (arith, w))

leaves : (leave : List Task → List Task) (s : TypedStmt) (ts : List Task) (steps : List Step) → stmt_shown s ≡ nothing_shown → Lasts (Exec s ∷ ts) steps → (AheadOf 0 0 ts → (tasks_shown ts).wrong ≡ 0 → Behind leave ts 0) → (leave ts ≡ []) ⊎ Lasts (leave ts) steps
leaves leave s ts steps is h behind = by (behind (ahead-less ts _ _ _ _ (omega arith) (omega arith) h.ahead) (let w = h.wrong in omega (arith, w)))
  where
    by : Behind leave ts 0 → (leave ts ≡ []) ⊎ Lasts (leave ts) steps
    by (inl e) = inl e
    by (inr (none, l)) = inr (record { wrong = l.wrong; left = l.left ∙ sym (ap (λ x. x.own ((tasks_shown ts).own [])) is) ∙ h.left; ahead = l.ahead })

mutual
  unfolding out-TypedStmt Carrier.out

  pub exec-lasts : (s : TypedStmt) (ts : List Task) (steps : List Step) → Lasts (Exec s ∷ ts) steps → (exec s ts ≡ []) ⊎ Lasts (exec s ts) steps
  exec-lasts (Set slot value at) ts steps h = inr (plain-lasts (Set slot value at) tt ts steps h)
  exec-lasts (Perform form operands at) ts steps h = inr (plain-lasts (Perform form operands at) tt ts steps h)
  exec-lasts (Update t op value at) ts steps h = inr (plain-lasts (Update t op value at) tt ts steps h)
  exec-lasts (If' condition shape first shape' second at) ts steps h = inr (plain-lasts (If' condition shape first shape' second at) tt ts steps h)
  exec-lasts (While' condition shape body at) ts steps h = inr (plain-lasts (While' condition shape body at) tt ts steps h)
  exec-lasts (Foreach' slot source shape body at) ts steps h = inr (plain-lasts (Foreach' slot source shape body at) tt ts steps h)
  exec-lasts (Match' own subject shape clauses at) ts steps h = inr (plain-lasts (Match' own subject shape clauses at) tt ts steps h)
  exec-lasts (Return value at) ts steps h = inr (plain-lasts (Return value at) tt ts steps h)
  exec-lasts (BlockStmt shape stmts at) ts steps h = inr (plain-lasts (BlockStmt shape stmts at) tt ts steps h)
  exec-lasts (Break at) ts steps h = leaves behind_loop (Break at) ts steps (fold_out-TypedStmt Shown Shown stmt_step clause_step (Break at)) h (behind-lasts ts 0 0)
  exec-lasts (Continue at) ts steps h = leaves from_loop (Continue at) ts steps (fold_out-TypedStmt Shown Shown stmt_step clause_step (Continue at)) h (from-lasts ts 0 0)

-- ---- choices and turns

pub branch-lasts : (first second : Branch) (ts : List Task) (steps : List Step) → Lasts (Choose first second ∷ ts) steps → Lasts (branch first ts) steps × Lasts (branch second ts) steps
branch-lasts first second ts steps h =
    let w = h.wrong in
    let a : None-of (branch_shown first) = omega (arith, w) in
    let b : None-of (branch_shown second) = omega (arith, w) in
    let x = branch-shows first ts (omega (arith, w)) in
    let y = branch-shows second ts (omega (arith, w)) in (
      record { wrong = x.0; left = x.1 [] ∙ h.left; ahead = branch-ahead first ts a h.ahead },
      record { wrong = y.0; left = y.1 [] ∙ h.left; ahead = branch-ahead second ts b h.ahead },
    )

pub turn-lasts : (loop : Loop) (ts : List Task) (steps : List Step) → Lasts (Turn loop ∷ ts) steps → Lasts (turn loop ts) steps
turn-lasts loop ts steps h =
    let w = h.wrong in
    let x = turn-shows loop ts w in
    record { wrong = x.0; left = x.1 [] ∙ h.left; ahead = turn-ahead loop ts (omega (arith, w)) h.ahead.1 }
