-- Each frame of a typed tree comes to what it asks: between two operations each step takes a part of a tree apart.
use Rattle.std.proofs.Common.{◌≡◌, ℕ, List, [], ◌∷◌, ◌++◌, Option, Some, None, refl, sym, subst, ap, true, false}
use Rattle.std.specs.Prelude.{◌+◌, length, map, negsuc}
use Rattle.type_model.specs.declared.atoms.AtomDef.{AtomDef}
use Rattle.type_model.specs.declared.basic.SemType.{SemType}
use Rattle.operations.specs.declared.operation.Constant.{Constant}
use Rattle.operations.specs.declared.operation.Constant.TheVariants as constant
use Rattle.operations.specs.declared.operation.Operation.{Operation}
use Rattle.operations.specs.declared.operation.Operation.TheVariants.{Const, Load, LoadModule, Store, StoreModule, Less, LessEqual, GetItem, Test, Return as ReturnOp}
use Rattle.value_model.specs.declared.filler.Filler.{Filler}
use Rattle.value_model.specs.declared.value.Value.{Value}
use Rattle.value_model.specs.declared.value.Value.TheVariants.{Nil, Bool as Truth, Int, Str, Struct, Error, Function as FunctionValue, Future}
use Rattle.typed_tree.specs.declared.expr.TypedExpr.{TypedExpr, Strict', Implied, Local as Variable, And', Or', Conditional', Elvis', Check', Trap', Function', Parens', out-TypedExpr, Row_of-TypedExpr, end_of-TypedExpr, more_of-TypedExpr, items-the_row-TypedExpr as exprs_in, items_shown-the_row-TypedExpr-0 as exprs-shown}
use Rattle.typed_tree.specs.declared.form.StrictForm.{StrictForm}
use Rattle.typed_tree.specs.declared.form.Operator.{Operator}
use Rattle.typed_tree.specs.declared.stmt.RangeEnd.TheVariants.{Included, Excluded}
use Rattle.typed_tree.specs.declared.stmt.Source.{Source}
use Rattle.typed_tree.specs.declared.stmt.Source.TheVariants.{Range, List as ListSource}
use Rattle.typed_tree.specs.declared.stmt.TypedStmt.{TypedStmt, Set, Perform, Update, If', While', Foreach', Match', Return, Block' as BlockStmt, Break, Continue, out-TypedStmt, Row_of-TypedStmt, end_of-TypedStmt, more_of-TypedStmt, items-the_row-TypedStmt as stmts_in, items_shown-the_row-TypedStmt-0 as stmts-shown, Row_of-TypedClause, end_of-TypedClause, more_of-TypedClause, items-the_row-TypedClause as clauses_in, items_shown-the_row-TypedClause-1 as clauses-shown}
use Rattle.typed_tree.specs.declared.stmt.TypedStmt.TheBlock.{shown-the_row-TypedStmt-0}
use Rattle.typed_tree.specs.declared.stmt.TypedPattern.{TypedPattern}
use Rattle.typed_tree.specs.declared.stmt.UpdateTarget.{UpdateTarget}
use Rattle.typed_tree.specs.declared.stmt.UpdateTarget.TheVariants as target
use Rattle.typed_tree.specs.declared.package.TypedPackage.{TypedPackage}
use Rattle.typed_tree.specs.declared.unit.Captured.{Captured}
use Rattle.typed_tree.specs.SharedTypes.{sem_of}
use Rattle.op_model.specs.Local.{Local, Act, Now, Later, Never, acts, with_stack}
use denote.Hole.Carrier
use mathlib.Core.Former
use Rattle.std.specs.Global.{Global}
use Rattle.std.specs.formers.vec.Vec
use Rattle.machine_model.specs.Machine.{Machine, asks as asks_of, captured_slots}
use Rattle.machine_model.specs.Following.{Settles, asks, stuck, on}
use Rattle.held_operations.specs.Constructs.{operations_of, operator_operations, perform_operations}
use Rattle.held_operations.specs.Operation.{singleton}
use Rattle.eval_model.specs.Expressions.{captures, check_ends, error_type, makes_function, narrowed_to, nil_type}
use Rattle.eval_model.specs.Tasks.{Loop, AsLongAs, OverRange, OverList, MatchRow, Branch, Whole, These, Kept, Block, Round, Rows, Task, Eval, Exec, Do, Get, Choose, Turn, Guard, Doing, doing, dos, evals, execs}
use Rattle.eval_model.specs.Loops.{begins_loop, behind_loop, from_loop, raises, round}
use Rattle.eval_model.specs.Statements.{branch, match_rows, reads_member, rows, sets_member, tries_row, updates}
use Rattle.eval_model.specs.Trees.{chosen, facts_of, trees}

module _ (atoms : List AtomDef) (fillers : ℕ → List Filler) (p : TypedPackage) (unit : ℕ) where
  abbrev M : Machine Doing
  M = trees atoms fillers p

  abbrev captured : List ℕ
  captured = captured_slots (facts_of atoms fillers p) unit

  -- where these tasks are left, the frame comes to what it asks
  abbrev S : List Task → Type 0
  S ts = (l : Local) → Settles M unit (doing l ts)

  -- ---- tasks that take no tree apart

  act-settles : (d : Doing) (ts : List Task) (act : Act) → M.look unit d ≡ asks_of (λ m. doing m ts) act → S ts → Settles M unit d
  act-settles d ts (Now m) e s = on e (s m)
  act-settles d ts (Later op vs m) e s = asks e
  act-settles d ts Never e s = stuck e

  do-settles : (op : Operation) (ts : List Task) → S ts → S (Do op ∷ ts)
  do-settles op ts s l = act-settles (doing l (Do op ∷ ts)) ts (acts captured op l) refl s

  get-settles : (slot : ℕ) (narrowed : Option SemType) (ts : List Task) → S ts → S (Get slot narrowed ∷ ts)
  get-settles slot narrowed ts s l = act-settles (doing l (Get slot narrowed ∷ ts)) ts (acts captured (Load slot) l) refl s

  captures-settle : (cs : List Captured) (ts : List Task) → S ts → S (captures cs ts)
  captures-settle [] ts s = s
  captures-settle (c ∷ cs) ts s = get-settles c.slot (narrowed_to c.narrowed c.ty) (captures cs ts) (captures-settle cs ts s)

  dos-settle : (ops : List Operation) (ts : List Task) → S ts → S (dos ops ts)
  dos-settle [] ts s = s
  dos-settle (op ∷ ops) ts s = do-settles op (dos ops ts) (dos-settle ops ts s)

  choose-settles : (a b : Branch) (ts : List Task) → S (branch a ts) → S (branch b ts) → S (Choose a b ∷ ts)
  choose-settles a b ts s t l = by l.stack refl
    where
      by : (stack : List Value) → l.stack ≡ stack → Settles M unit (doing l (Choose a b ∷ ts))
      by (Truth true ∷ rest) e = on (ap (λ v. chosen a b ts l v) e) (s (with_stack l rest))
      by (Truth false ∷ rest) e = on (ap (λ v. chosen a b ts l v) e) (t (with_stack l rest))
      by (Nil ∷ rest) e = stuck (ap (λ v. chosen a b ts l v) e)
      by (Int z ∷ rest) e = stuck (ap (λ v. chosen a b ts l v) e)
      by (Str t ∷ rest) e = stuck (ap (λ v. chosen a b ts l v) e)
      by (Struct n ∷ rest) e = stuck (ap (λ v. chosen a b ts l v) e)
      by (Error n ∷ rest) e = stuck (ap (λ v. chosen a b ts l v) e)
      by (FunctionValue n ∷ rest) e = stuck (ap (λ v. chosen a b ts l v) e)
      by (Future x u ∷ rest) e = stuck (ap (λ v. chosen a b ts l v) e)
      by [] e = stuck (ap (λ v. chosen a b ts l v) e)

  these-settle : (ops : List Operation) (ts : List Task) → S ts → S (branch (These ops) ts)
  these-settle ops ts s = dos-settle ops ts s

  kept-settles : (slot : ℕ) (type : SemType) (ops : List Operation) (ts : List Task) → S ts → S (branch (Kept slot type ops) ts)
  kept-settles slot type ops ts s = get-settles slot (Some type) (dos ops ts) (dos-settle ops ts s)

  guard-settles : (vs : List Value) (ts : List Task) → S ts → S (Guard vs ∷ ts)
  guard-settles vs ts s l = on refl (s l)

  -- ---- expressions

  abbrev strict : StrictForm → List TypedExpr → List Task → List Task
  strict form es ts = evals es (dos (operations_of form (length es)) ts)

  mutual
    unfolding out-TypedExpr Carrier.out

    eval-settles : (e : TypedExpr) (ts : List Task) → S ts → S (Eval e ∷ ts)
    eval-settles (Strict' form shape operands type at) ts s l =
        on refl (subst (λ es. S (strict form es ts)) (sym (exprs-shown shape operands)) (row-settles operands _ (dos-settle (operations_of form (length (exprs_in _ operands))) ts s)) l)
    eval-settles (Implied value type at) ts s l = on refl (do-settles (Const value) ts s l)
    eval-settles (Variable slot narrowed type at) ts s l = on refl (get-settles slot (narrowed_to narrowed type) ts s l)
    eval-settles (And' _ left _ right type at) ts s l =
        on refl (eval-settles left _ (choose-settles (Whole right) (These (Const (constant.Bool false) ∷ [])) ts (eval-settles right ts s) (these-settle (Const (constant.Bool false) ∷ []) ts s)) l)
    eval-settles (Or' _ left _ right type at) ts s l =
        on refl (eval-settles left _ (choose-settles (These (Const (constant.Bool true) ∷ [])) (Whole right) ts (these-settle (Const (constant.Bool true) ∷ []) ts s) (eval-settles right ts s)) l)
    eval-settles (Conditional' _ condition _ middle _ last type at) ts s l =
        on refl (eval-settles condition _ (choose-settles (Whole middle) (Whole last) ts (eval-settles middle ts s) (eval-settles last ts s)) l)
    eval-settles (Elvis' own _ left _ right type at) ts s l =
        on refl (eval-settles left _ (dos-settle (Store own ∷ Load own ∷ Test nil_type ∷ []) _ (choose-settles (Whole right) (Kept own (sem_of type) []) ts (eval-settles right ts s) (kept-settles own (sem_of type) [] ts s))) l)
    eval-settles (Check' panics own _ operand type at) ts s l =
        on refl (eval-settles operand _ (dos-settle (Store own ∷ Load own ∷ Test error_type ∷ []) _ (choose-settles (Kept own error_type (check_ends panics ∷ [])) (Kept own (sem_of type) []) ts (kept-settles own error_type (check_ends panics ∷ []) ts s) (kept-settles own (sem_of type) [] ts s))) l)
    eval-settles (Trap' _ operand type at) ts s l = on refl (eval-settles operand (Guard l.stack ∷ ts) (guard-settles l.stack ts s) l)
    eval-settles (Function' function _ value type at) ts s l =
        on refl (captures-settle function.value.captured _ (do-settles (makes_function function.value) ts s) l)
    eval-settles (Parens' _ inner type at) ts s l = on refl (eval-settles inner ts s l)

    row-settles : {n : _} (row : Row_of-TypedExpr n) (ts : List Task) → S ts → S (evals (exprs_in _ row) ts)
    row-settles end_of-TypedExpr ts s = s
    row-settles (more_of-TypedExpr e rest) ts s = eval-settles e (evals (exprs_in _ rest) ts) (row-settles rest ts s)

  evals-settle : (es : List TypedExpr) (ts : List Task) → S ts → S (evals es ts)
  evals-settle [] ts s = s
  evals-settle (e ∷ es) ts s = eval-settles e (evals es ts) (evals-settle es ts s)

  -- ---- loops: a turn comes to its tick

  turn-settles : (loop : Loop) (ts : List Task) → S (Turn loop ∷ ts)
  turn-settles loop ts l = on refl (asks refl)

  begins-settles : (slot : ℕ) (source : Source) (body : List TypedStmt) (ts : List Task) → S (begins_loop slot source body ts)
  begins-settles slot (Range own Included from to) body ts =
      eval-settles from.value _ (do-settles (Store own) _ (eval-settles to.value _ (do-settles (Store (own + 1)) _
      (dos-settle (Load own ∷ Load (own + 1) ∷ LessEqual ∷ Store (own + 2) ∷ []) _ (turn-settles (OverRange Included slot own body) ts)))))
  begins-settles slot (Range own Excluded from to) body ts =
      eval-settles from.value _ (do-settles (Store own) _ (eval-settles to.value _ (do-settles (Store (own + 1)) _
      (turn-settles (OverRange Excluded slot own body) ts))))
  begins-settles slot (ListSource own list) body ts =
      eval-settles list.value _ (dos-settle (Store own ∷ Const (constant.Int (negsuc 0)) ∷ Store (own + 1) ∷ []) _ (turn-settles (OverList slot own body) ts))

  from-settles : (ts : List Task) → S (from_loop ts)
  from-settles [] = λ l. stuck refl
  from-settles (Turn loop ∷ ts) = turn-settles loop ts
  from-settles (Eval e ∷ ts) = from-settles ts
  from-settles (Exec s ∷ ts) = from-settles ts
  from-settles (Do op ∷ ts) = from-settles ts
  from-settles (Get slot narrowed ∷ ts) = from-settles ts
  from-settles (Choose a b ∷ ts) = from-settles ts
  from-settles (Guard vs ∷ ts) = from-settles ts

  -- ---- assignments with an operator

  updates-settles : (t : UpdateTarget) (op : Operator) (value : TypedExpr) (ts : List Task) → S ts → S (updates t op value ts)
  updates-settles (target.Local slot narrowed type) op value ts s =
      get-settles slot (narrowed_to narrowed type) _ (eval-settles value _ (dos-settle (operator_operations op) _ (do-settles (Store slot) ts s)))
  updates-settles (target.Variable m) op value ts s =
      do-settles (LoadModule m) _ (eval-settles value _ (dos-settle (operator_operations op) _ (do-settles (StoreModule m) ts s)))
  updates-settles (target.Member own how container key type) op value ts s =
      eval-settles container.value _ (do-settles (Store own) _ (eval-settles key.value _ (do-settles (Store (own + 1)) _
      (dos-settle (Load own ∷ Load (own + 1) ∷ reads_member how own) _
      (eval-settles value _ (dos-settle (operator_operations op) _ (do-settles (sets_member how) ts s)))))))

  -- the statements of a row
  abbrev shown : (shape : (Vec.the_former (Former.this {0}) Global).Shape) → Row_of-TypedStmt (Former.arity (Vec.the_former (Former.this {0}) Global) shape) → List TypedStmt
  shown shape row = (shown-the_row-TypedStmt-0 shape row).items

  block-settles : (shape : _) (row : _) (ts : List Task) → S (execs (stmts_in _ row) ts) → S (execs (shown shape row) ts)
  block-settles shape row ts s = subst (λ ss. S (execs ss ts)) (sym (stmts-shown shape row)) s

  -- ---- statements: those behind the innermost loop are reached by `break`

  behind-execs : (ss : List TypedStmt) (ts : List Task) → behind_loop (execs ss ts) ≡ behind_loop ts
  behind-execs [] ts = refl
  behind-execs (s ∷ ss) ts = behind-execs ss ts

  -- where all rows of a match settle, so does it
  row-of-match-settles : (own : ℕ) (pattern : Option Constant) (body : List TypedStmt) (more : List MatchRow) (ts : List Task) → S (execs body ts) → S (rows own more ts) → S (tries_row own pattern body more ts)
  row-of-match-settles own (Some c) body more ts s t =
      dos-settle (Load own ∷ Test (singleton c) ∷ []) _ (choose-settles (Block body) (Rows own more) ts s t)
  row-of-match-settles own None body more ts s t = s

  patterns-settle : (own : ℕ) (ps : List TypedPattern) (body : List TypedStmt) (more : List MatchRow) (ts : List Task) → S (execs body ts) → S (rows own more ts) → S (rows own (map (λ q. record { pattern = q.value; body = body }) ps ++ more) ts)
  patterns-settle own [] body more ts s t = t
  patterns-settle own (q ∷ ps) body more ts s t =
      row-of-match-settles own q.value body (map (λ q. record { pattern = q.value; body = body }) ps ++ more) ts s (patterns-settle own ps body more ts s t)

  mutual
    unfolding out-TypedStmt Carrier.out

    exec-settles : (x : TypedStmt) (ts : List Task) → S ts → S (behind_loop ts) → S (Exec x ∷ ts)
    exec-settles (Set slot value at) ts s b l = on refl (eval-settles value.value _ (do-settles (Store slot) ts s) l)
    exec-settles (Perform form operands at) ts s b l =
        on refl (evals-settle operands.items _ (dos-settle (perform_operations form) ts s) l)
    exec-settles (Update t op value at) ts s b l = on refl (updates-settles t op value.value ts s l)
    exec-settles (If' condition shape first shape' second at) ts s b l =
        on refl (eval-settles condition.value _ (choose-settles (Block (shown shape first)) (Block (shown shape' second)) ts (block-settles shape first ts (stmts-settle first ts s b)) (block-settles shape' second ts (stmts-settle second ts s b))) l)
    exec-settles (While' condition shape body at) ts s b l = on refl (turn-settles (AsLongAs condition.value (shown shape body)) ts l)
    exec-settles (Foreach' slot source shape body at) ts s b l = on refl (begins-settles slot source (shown shape body) ts l)
    exec-settles (Match' own subject shape clauses at) ts s b l =
        on refl (eval-settles subject.value _ (do-settles (Store own) _ (subst (λ cs. S (rows own (match_rows cs) ts)) (sym (clauses-shown shape clauses)) (clauses-settle own clauses ts s b))) l)
    exec-settles (Return None at) ts s b l = on refl (dos-settle (Const constant.Nil ∷ ReturnOp ∷ []) ts s l)
    exec-settles (Return (Some e) at) ts s b l = on refl (eval-settles e.value _ (do-settles ReturnOp ts s) l)
    exec-settles (BlockStmt shape stmts at) ts s b l = on refl (block-settles shape stmts ts (stmts-settle stmts ts s b) l)
    exec-settles (Break at) ts s b l = on refl (b l)
    exec-settles (Continue at) ts s b l = on refl (from-settles ts l)

    stmts-settle : {n : _} (row : Row_of-TypedStmt n) (ts : List Task) → S ts → S (behind_loop ts) → S (execs (stmts_in _ row) ts)
    stmts-settle end_of-TypedStmt ts s b = s
    stmts-settle (more_of-TypedStmt x rest) ts s b =
        exec-settles x (execs (stmts_in _ rest) ts) (stmts-settle rest ts s b) (subst S (sym (behind-execs (stmts_in _ rest) ts)) b)

    clauses-settle : {n : _} (own : ℕ) (row : Row_of-TypedClause n) (ts : List Task) → S ts → S (behind_loop ts) → S (rows own (match_rows (clauses_in _ row)) ts)
    clauses-settle own end_of-TypedClause ts s b = s
    clauses-settle own (more_of-TypedClause patterns shape stmts at rest) ts s b =
        patterns-settle own patterns.items (shown shape stmts) (match_rows (clauses_in _ rest)) ts (block-settles shape stmts ts (stmts-settle stmts ts s b)) (clauses-settle own rest ts s b)

  execs-settle : (ss : List TypedStmt) (ts : List Task) → S ts → S (behind_loop ts) → S (execs ss ts)
  execs-settle [] ts s b = s
  execs-settle (x ∷ ss) ts s b = exec-settles x (execs ss ts) (execs-settle ss ts s b) (subst S (sym (behind-execs ss ts)) b)

  -- ---- ways to go on

  rows-settle : (own : ℕ) (rs : List MatchRow) (ts : List Task) → S ts → S (behind_loop ts) → S (rows own rs ts)
  rows-settle own [] ts s b = s
  rows-settle own (r ∷ rs) ts s b =
      row-of-match-settles own r.pattern r.body rs ts (execs-settle r.body ts s b) (rows-settle own rs ts s b)

  body-settles : (body : List TypedStmt) (loop : Loop) (ts : List Task) → S ts → S (execs body (Turn loop ∷ ts))
  body-settles body loop ts s = execs-settle body (Turn loop ∷ ts) (turn-settles loop ts) s

  round-settles : (loop : Loop) (ts : List Task) → S ts → S (round loop (Turn loop ∷ ts))
  round-settles (AsLongAs condition body) ts s = body-settles body (AsLongAs condition body) ts s
  round-settles (OverRange Included slot own body) ts s =
      dos-settle (Load own ∷ Store slot ∷ Load own ∷ Load (own + 1) ∷ Less ∷ Store (own + 2) ∷ Load (own + 2) ∷ []) _
      (choose-settles (These (raises own)) (These []) _
      (dos-settle (raises own) _ (body-settles body (OverRange Included slot own body) ts s))
      (body-settles body (OverRange Included slot own body) ts s))
  round-settles (OverRange Excluded slot own body) ts s =
      dos-settle (Load own ∷ Store slot ∷ raises own) _ (body-settles body (OverRange Excluded slot own body) ts s)
  round-settles (OverList slot own body) ts s =
      dos-settle (Load own ∷ Load (own + 1) ∷ GetItem ∷ Store slot ∷ []) _ (body-settles body (OverList slot own body) ts s)

  branch-settles : (way : Branch) (ts : List Task) → S ts → S (behind_loop ts) → S (branch way ts)
  branch-settles (Whole e) ts s b = eval-settles e ts s
  branch-settles (These ops) ts s b = dos-settle ops ts s
  branch-settles (Kept slot type ops) ts s b = kept-settles slot type ops ts s
  branch-settles (Block body) ts s b = execs-settle body ts s b
  branch-settles (Round loop) ts s b = round-settles loop ts s
  branch-settles (Rows own more) ts s b = rows-settle own more ts s b

  -- ---- all tasks

  tasks-settle : (ts : List Task) → S ts × S (behind_loop ts)
  tasks-settle [] = (λ l. stuck refl, λ l. stuck refl)
  tasks-settle (Turn loop ∷ ts) = let r = tasks-settle ts in (turn-settles loop ts, r.0)
  tasks-settle (Eval e ∷ ts) = let r = tasks-settle ts in (eval-settles e ts r.0, r.1)
  tasks-settle (Exec x ∷ ts) = let r = tasks-settle ts in (exec-settles x ts r.0 r.1, r.1)
  tasks-settle (Do op ∷ ts) = let r = tasks-settle ts in (do-settles op ts r.0, r.1)
  tasks-settle (Get slot narrowed ∷ ts) = let r = tasks-settle ts in (get-settles slot narrowed ts r.0, r.1)
  tasks-settle (Choose a b ∷ ts) = let r = tasks-settle ts in (choose-settles a b ts (branch-settles a ts r.0 r.1) (branch-settles b ts r.0 r.1), r.1)
  tasks-settle (Guard vs ∷ ts) = let r = tasks-settle ts in (guard-settles vs ts r.0, r.1)

  pub doing-settles : (d : Doing) → Settles M unit d
  doing-settles d = (tasks-settle d.tasks).0 d.local
