-- What is left to be made stays the same while statements are taken apart.
use Rattle.std.proofs.Common.{◌≡◌, ◌+◌, ◌++◌, ℕ, List, [], ◌∷◌, Option, Some, None, map, refl, sym, subst, ap, ◌∙◌, arith}
use denote.Hole.Carrier
use Rattle.operations.specs.declared.operation.Constant.{Constant}
use Rattle.operations.specs.declared.operation.Operation.{Operation}
use Rattle.operations.specs.declared.operation.Operation.TheVariants.{Load, Store, StoreModule}
use Rattle.typed_tree.specs.declared.expr.TypedExpr.{TypedExpr}
use Rattle.typed_tree.specs.declared.form.Operator.{Operator}
use Rattle.typed_tree.specs.declared.form.Read.{Read}
use Rattle.typed_tree.specs.declared.form.Read.TheVariants as read
use Rattle.typed_tree.specs.declared.stmt.PerformForm.{PerformForm}
use Rattle.typed_tree.specs.declared.stmt.PerformForm.TheVariants as perform
use Rattle.typed_tree.specs.declared.stmt.RangeEnd.TheVariants.{Included, Excluded}
use Rattle.typed_tree.specs.declared.stmt.Source.TheVariants.{Range, List as ListSource}
use Rattle.typed_tree.specs.declared.stmt.TypedClause.{TypedClause, fold_out-TypedClause, out-TypedClause}
use Rattle.typed_tree.specs.declared.stmt.TypedStmt.{TypedStmt, Set, Perform, Update, If', While', Foreach', Match', Return, Block' as BlockStmt, Break, Continue, out-TypedStmt, fold_out-TypedStmt}
use Rattle.typed_tree.specs.declared.stmt.UpdateTarget.{UpdateTarget}
use Rattle.typed_tree.specs.declared.stmt.UpdateTarget.TheVariants as target
use Rattle.typed_tree.specs.StmtLayers.{of_typed_clause}
use Rattle.held_operations.specs.Constructs.{operator_operations, perform_operations}
use Rattle.eval_model.specs.Loops.{round, turn}
use Rattle.eval_model.specs.Statements.{branch, exec, match_rows, reads_member, rows, sets_member, tries_row, updates}
use Rattle.eval_model.specs.Tasks.{Branch, Whole, These, Kept, Block, Round, Rows, MatchRow, Loop, AsLongAs, OverRange, OverList, Task, Eval, Do, Turn, dos, evals, execs}
use Rattle.worker_waits.specs.Left.{Shown, all_shown, branch_shown, clause_step, expr_shown, exprs_shown, loop_shown, nothing_shown, op_shown, ops_shown, showing, stmt_shown, stmt_step, stmts_shown, target_shown, tasks_shown, then_shown, within}
use Rattle.worker_waits.proofs.Left.{Shows, dos-show, evals-show, operator-shows}
use Rattle.worker_waits.proofs.Told.{fair, told-expr, told-ops, told-stmts}

-- ---- one after another

pub execs-show : (ss : List TypedStmt) (ts : List Task) → Shows (tasks_shown (execs ss ts)) (then_shown (stmts_shown ss) (tasks_shown ts))
execs-show [] ts none = (omega (arith, none), λ k. refl)
execs-show (s ∷ ss) ts none =
    let rest = execs-show ss ts (omega (arith, none)) in
    let right = rest.0 in
    (omega (arith, none, right), λ k. ap (λ x. (stmt_shown s).own x) (rest.1 k))

-- in a part of its own they show nothing
pub block-shows : (ss : List TypedStmt) (ts : List Task) → Shows (tasks_shown (execs ss ts)) (then_shown (within (stmts_shown ss)) (tasks_shown ts))
block-shows ss ts none =
    let rest = execs-show ss ts (omega (arith, none)) in
    (rest.0, λ k. rest.1 k ∙ fair (stmts_shown ss) (told-stmts ss) (omega (arith, none)) ((tasks_shown ts).own k))

pub perform-shows : (f : PerformForm) → Shows (ops_shown (perform_operations f)) nothing_shown
perform-shows (perform.SetVariable m) none = (refl, λ k. refl)
perform-shows perform.SetItem none = (refl, λ k. refl)
perform-shows perform.SetKey none = (refl, λ k. refl)
perform-shows perform.Ignore none = (refl, λ k. refl)
perform-shows perform.Evaluate none = (refl, λ k. refl)
perform-shows perform.Panic none = (refl, λ k. refl)

pub performs-show : (f : PerformForm) (es : List TypedExpr) (ts : List Task) → Shows (tasks_shown (evals es (dos (perform_operations f) ts))) (then_shown (exprs_shown es) (tasks_shown ts))
performs-show f es ts none =
    let fs = perform-shows f refl in
    let f0 = fs.0 in
    let ds = dos-show (perform_operations f) ts (omega (arith, none, f0)) in
    let d0 = ds.0 in
    let xs = evals-show es (dos (perform_operations f) ts) (omega (arith, none, d0)) in
    (xs.0, λ k. xs.1 k ∙ ap (λ x. (exprs_shown es).own x) (ds.1 k ∙ fs.1 ((tasks_shown ts).own k)))

-- ---- statements

-- all but those that leave a loop, or begin its next turn
abbrev pub IsPlain : TypedStmt → Type 0
IsPlain (Set slot value at) = Unit {0}
IsPlain (Perform form operands at) = Unit {0}
IsPlain (Update t op value at) = Unit {0}
IsPlain (If' condition shape first shape' second at) = Unit {0}
IsPlain (While' condition shape body at) = Unit {0}
IsPlain (Foreach' slot source shape body at) = Unit {0}
IsPlain (Match' own subject shape clauses at) = Unit {0}
IsPlain (Return value at) = Unit {0}
IsPlain (BlockStmt shape stmts at) = Unit {0}
IsPlain (Break at) = ⊥
IsPlain (Continue at) = ⊥

-- ---- assignments with an operator

pub reads-show : (how : Read) (own : ℕ) → Shows (ops_shown (Load own ∷ Load (own + 1) ∷ reads_member how own)) nothing_shown
reads-show read.Item own none = (refl, λ k. refl)
reads-show read.Key own none = (refl, λ k. refl)
reads-show read.Char own none = (refl, λ k. refl)
reads-show (read.Field name) own none = (refl, λ k. refl)
reads-show (read.OptionalField name) own none = (refl, λ k. refl)

pub sets-show : (how : Read) → op_shown (sets_member how) ≡ nothing_shown
sets-show read.Item = refl
sets-show read.Key = refl
sets-show read.Char = refl
sets-show (read.Field name) = refl
sets-show (read.OptionalField name) = refl

-- the value, what the operator does with it, and a store
stores-show : (value : TypedExpr) (o : Operator) (store : Operation) (ts : List Task) → op_shown store ≡ nothing_shown → Shows (tasks_shown (Eval value ∷ dos (operator_operations o) (Do store ∷ ts))) (then_shown (expr_shown value) (tasks_shown ts))
stores-show value o store ts is none =
    let os = operator-shows o refl in
    let o0 = os.0 in
    let w : (op_shown store).wrong ≡ 0 = ap (λ x. x.wrong) is in
    let ds = dos-show (operator_operations o) (Do store ∷ ts) (omega (arith, none, o0, w)) in
    let d0 = ds.0 in
    (omega (arith, none, d0), λ k. ap (λ x. (expr_shown value).own x) (ds.1 k ∙ os.1 _ ∙ ap (λ x. x.own ((tasks_shown ts).own k)) is))

updates-show : (t : UpdateTarget) (o : Operator) (value : TypedExpr) (ts : List Task) → Shows (tasks_shown (updates t o value ts)) (then_shown (then_shown (target_shown t) (expr_shown value)) (tasks_shown ts))
updates-show (target.Local slot narrowed type) o value ts none = let s = stores-show value o (Store slot) ts refl (omega (arith, none)) in let s0 = s.0 in (omega (arith, s0), s.1)
updates-show (target.Variable m) o value ts none = let s = stores-show value o (StoreModule m) ts refl (omega (arith, none)) in let s0 = s.0 in (omega (arith, s0), s.1)
updates-show (target.Member own how container key type) o value ts none =
    let s = stores-show value o (sets_member how) ts (sets-show how) (omega (arith, none)) in
    let s0 = s.0 in
    let rs = reads-show how own refl in
    let r0 = rs.0 in
    let ds = dos-show (Load own ∷ Load (own + 1) ∷ reads_member how own) (Eval value ∷ dos (operator_operations o) (Do (sets_member how) ∷ ts)) (omega (arith, s0, r0)) in
    let d0 = ds.0 in
    (omega (arith, none, d0), λ k. ap (λ x. (expr_shown container.value).own ((expr_shown key.value).own x)) (ds.1 k ∙ rs.1 _ ∙ s.1 k))

-- ---- matches

abbrev pub rows_shown : List MatchRow → Shown
rows_shown rs = all_shown (map (λ r. stmts_shown r.body) rs)

tries-show : (own : ℕ) (pattern : Option Constant) (body : List TypedStmt) (more : List MatchRow) (ts : List Task) → Shows (tasks_shown (tries_row own pattern body more ts)) (then_shown (within (then_shown (stmts_shown body) (rows_shown more))) (tasks_shown ts))
tries-show own (Some c) body more ts none = (omega (arith, none), λ k. refl)
tries-show own None body more ts none = let b = block-shows body ts (omega (arith, none)) in b

pub rows-show : (own : ℕ) (rs : List MatchRow) (ts : List Task) → Shows (tasks_shown (rows own rs ts)) (then_shown (within (rows_shown rs)) (tasks_shown ts))
rows-show own [] ts none = (omega (arith, none), λ k. refl)
rows-show own (r ∷ more) ts none = tries-show own r.pattern r.body more ts none

abbrev pub clause_shows : TypedClause → Shown
clause_shows = of_typed_clause showing

abbrev pub None-of : Shown → Type 0
None-of a = a.size + a.wrong ≡ 0

copies-none : {P : Type 0} (f : P → MatchRow) (body : List TypedStmt) (ps : List P) (more : List MatchRow) → ((p : P) → (f p).body ≡ body) → None-of (stmts_shown body) → None-of (rows_shown more) → None-of (rows_shown (map f ps ++ more))
copies-none f body [] more same h rest = rest
copies-none f body (p ∷ ps) more same h rest =
    let here : None-of (stmts_shown (f p).body) = subst (λ b. None-of (stmts_shown b)) (sym (same p)) h in
    let others = copies-none f body ps more same h rest in
    omega (arith, here, others)

-- a clause's statements are done for each of its patterns
pub clauses-none : (cs : List TypedClause) → None-of (all_shown (map clause_shows cs)) → None-of (rows_shown (match_rows cs))
unfolding Carrier.out
clauses-none [] h = refl
clauses-none (c ∷ cs) h =
    let e : clause_shows c ≡ stmts_shown (out-TypedClause c).stmts.items = fold_out-TypedClause Shown Shown stmt_step clause_step c in
    let size = ap (λ x. x.size) e in
    let wrong = ap (λ x. x.wrong) e in
    copies-none _ (out-TypedClause c).stmts.items (out-TypedClause c).patterns.items (match_rows cs) (λ p. refl) (omega (arith, h, size, wrong)) (clauses-none cs (omega (arith, h)))

matches-show : (own : ℕ) (subject : TypedExpr) (cs : List TypedClause) (ts : List Task) → Shows (tasks_shown (Eval subject ∷ Do (Store own) ∷ rows own (match_rows cs) ts)) (then_shown (then_shown (expr_shown subject) (within (all_shown (map clause_shows cs)))) (tasks_shown ts))
matches-show own subject cs ts none =
    let n = clauses-none cs (omega (arith, none)) in
    let rs = rows-show own (match_rows cs) ts (omega (arith, none, n)) in
    let r0 = rs.0 in
    (omega (arith, none, r0), λ k. ap (λ x. (expr_shown subject).own x) (rs.1 k))

by-layer : (s : TypedStmt) (ts : List Task) {b : Shown} → stmt_shown s ≡ b → Shows (tasks_shown (exec s ts)) (then_shown b (tasks_shown ts)) → Shows (tasks_shown (exec s ts)) (then_shown (stmt_shown s) (tasks_shown ts))
by-layer s ts eq h = subst (λ x. Shows (tasks_shown (exec s ts)) (then_shown x (tasks_shown ts))) (sym eq) h

mutual
  unfolding out-TypedStmt Carrier.out

  pub exec-shows : (s : TypedStmt) → IsPlain s → (ts : List Task) → Shows (tasks_shown (exec s ts)) (then_shown (stmt_shown s) (tasks_shown ts))
  exec-shows (Set slot value at) plain ts = by-layer (Set slot value at) ts (fold_out-TypedStmt Shown Shown stmt_step clause_step (Set slot value at)) (λ none. (omega (arith, none), λ k. refl))
  exec-shows (Perform form operands at) plain ts = by-layer (Perform form operands at) ts (fold_out-TypedStmt Shown Shown stmt_step clause_step (Perform form operands at)) (performs-show form operands.items ts)
  exec-shows (Update t op value at) plain ts = by-layer (Update t op value at) ts (fold_out-TypedStmt Shown Shown stmt_step clause_step (Update t op value at)) (updates-show t op value.value ts)
  exec-shows (If' condition shape first shape' second at) plain ts = by-layer (If' condition shape first shape' second at) ts (fold_out-TypedStmt Shown Shown stmt_step clause_step (If' condition shape first shape' second at)) (λ none. (omega (arith, none), λ k. refl))
  exec-shows (While' condition shape body at) plain ts = by-layer (While' condition shape body at) ts (fold_out-TypedStmt Shown Shown stmt_step clause_step (While' condition shape body at)) (λ none. (omega (arith, none), λ k. refl))
  exec-shows (Foreach' slot (Range own Included from to) shape body at) plain ts = by-layer (Foreach' slot (Range own Included from to) shape body at) ts (fold_out-TypedStmt Shown Shown stmt_step clause_step (Foreach' slot (Range own Included from to) shape body at)) (λ none. (omega (arith, none), λ k. fair (expr_shown from.value) (told-expr from.value) (omega (arith, none)) _ ∙ fair (expr_shown to.value) (told-expr to.value) (omega (arith, none)) _))
  exec-shows (Foreach' slot (Range own Excluded from to) shape body at) plain ts = by-layer (Foreach' slot (Range own Excluded from to) shape body at) ts (fold_out-TypedStmt Shown Shown stmt_step clause_step (Foreach' slot (Range own Excluded from to) shape body at)) (λ none. (omega (arith, none), λ k. fair (expr_shown from.value) (told-expr from.value) (omega (arith, none)) _ ∙ fair (expr_shown to.value) (told-expr to.value) (omega (arith, none)) _))
  exec-shows (Foreach' slot (ListSource own list) shape body at) plain ts = by-layer (Foreach' slot (ListSource own list) shape body at) ts (fold_out-TypedStmt Shown Shown stmt_step clause_step (Foreach' slot (ListSource own list) shape body at)) (λ none. (omega (arith, none), λ k. fair (expr_shown list.value) (told-expr list.value) (omega (arith, none)) _))
  exec-shows (Match' own subject shape clauses at) plain ts = by-layer (Match' own subject shape clauses at) ts (fold_out-TypedStmt Shown Shown stmt_step clause_step (Match' own subject shape clauses at)) (matches-show own subject.value _ ts)
  exec-shows (Return None at) plain ts = by-layer (Return None at) ts (fold_out-TypedStmt Shown Shown stmt_step clause_step (Return None at)) (λ none. (omega (arith, none), λ k. refl))
  exec-shows (Return (Some e) at) plain ts = by-layer (Return (Some e) at) ts (fold_out-TypedStmt Shown Shown stmt_step clause_step (Return (Some e) at)) (λ none. (omega (arith, none), λ k. refl))
  exec-shows (BlockStmt shape stmts at) plain ts = by-layer (BlockStmt shape stmts at) ts (fold_out-TypedStmt Shown Shown stmt_step clause_step (BlockStmt shape stmts at)) (block-shows _ ts)
  exec-shows (Break at) plain ts = absurd plain
  exec-shows (Continue at) plain ts = absurd plain

-- ---- loops and branches

pub turn-shows : (loop : Loop) (ts : List Task) → Shows (tasks_shown (turn loop ts)) (then_shown (within (loop_shown loop)) (tasks_shown ts))
turn-shows (AsLongAs condition body) ts none = (omega (arith, none), λ k. fair (expr_shown condition) (told-expr condition) (omega (arith, none)) _)
turn-shows (OverRange Included slot own body) ts none = (omega (arith, none), λ k. refl)
turn-shows (OverRange Excluded slot own body) ts none = (omega (arith, none), λ k. refl)
turn-shows (OverList slot own body) ts none = (omega (arith, none), λ k. refl)

round-shows : (loop : Loop) (ts : List Task) → Shows (tasks_shown (round loop (Turn loop ∷ ts))) (then_shown (within (loop_shown loop)) (tasks_shown ts))
round-shows (AsLongAs condition body) ts none = let b = block-shows body (Turn (AsLongAs condition body) ∷ ts) (omega (arith, none)) in b
round-shows (OverRange Included slot own body) ts none = let b = block-shows body (Turn (OverRange Included slot own body) ∷ ts) (omega (arith, none)) in let b0 = b.0 in (omega (arith, b0), b.1)
round-shows (OverRange Excluded slot own body) ts none = let b = block-shows body (Turn (OverRange Excluded slot own body) ∷ ts) (omega (arith, none)) in let b0 = b.0 in (omega (arith, b0), b.1)
round-shows (OverList slot own body) ts none = let b = block-shows body (Turn (OverList slot own body) ∷ ts) (omega (arith, none)) in let b0 = b.0 in (omega (arith, b0), b.1)

ops-within : (ops : List Operation) (ts : List Task) → Shows (tasks_shown (dos ops ts)) (then_shown (within (ops_shown ops)) (tasks_shown ts))
ops-within ops ts none =
    let ds = dos-show ops ts (omega (arith, none)) in
    (ds.0, λ k. ds.1 k ∙ fair (ops_shown ops) (told-ops ops) (omega (arith, none)) ((tasks_shown ts).own k))

pub branch-shows : (b : Branch) (ts : List Task) → Shows (tasks_shown (branch b ts)) (then_shown (within (branch_shown b)) (tasks_shown ts))
branch-shows (Whole e) ts none = (omega (arith, none), λ k. fair (expr_shown e) (told-expr e) (omega (arith, none)) _)
branch-shows (These ops) ts none = ops-within ops ts none
branch-shows (Kept slot type ops) ts none = let h = ops-within ops ts none in let h0 = h.0 in (omega (arith, h0), h.1)
branch-shows (Block body) ts none = block-shows body ts none
branch-shows (Round loop) ts none = round-shows loop ts none
branch-shows (Rows own rs) ts none = rows-show own rs ts none
