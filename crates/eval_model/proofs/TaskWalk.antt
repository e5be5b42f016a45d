-- The ways through a tree are ways through what a frame has to do for it.
use Rattle.std.proofs.Common.{◌≡◌, ℕ, ◌+◌, ◌++◌, List, [], ◌∷◌, Option, Some, None, refl, sym, subst, map, true, false}
use Rattle.std.specs.Prelude.{length, negsuc}
use Rattle.operations.specs.declared.library.LibraryCall.TheVariants.{ListLength}
use Rattle.operations.specs.declared.operation.Constant.{Constant}
use Rattle.operations.specs.declared.operation.Constant.TheVariants as constant
use Rattle.operations.specs.declared.operation.Operation.{Operation}
use Rattle.operations.specs.declared.operation.Operation.TheVariants.{Const, Load, Store, Less, LessEqual, GetItem, Library, Test, Return as ReturnOp}
use Rattle.value_model.specs.declared.value.Value.{Value}
use Rattle.typed_tree.specs.declared.expr.TypedExpr.{TypedExpr, out-TypedExpr, Strict', Implied, Local as Variable, And', Or', Conditional', Elvis', Check', Trap', Function', Parens', Row_of-TypedExpr, end_of-TypedExpr, more_of-TypedExpr, items-the_row-TypedExpr as exprs_in, items_shown-the_row-TypedExpr-0 as exprs-shown}
use Rattle.typed_tree.specs.declared.form.Operator.{Operator}
use Rattle.typed_tree.specs.declared.stmt.TypedPattern.{TypedPattern}
use Rattle.typed_tree.specs.declared.stmt.TypedStmt.{TypedStmt, out-TypedStmt, Set, Perform, Update, If', While', Foreach', Match', Return, Block' as BlockStmt, Break, Continue, Row_of-TypedStmt, end_of-TypedStmt, more_of-TypedStmt, items-the_row-TypedStmt as stmts_in, items_shown-the_row-TypedStmt-0 as stmts-shown, Row_of-TypedClause, end_of-TypedClause, more_of-TypedClause, items-the_row-TypedClause as clauses_in, items_shown-the_row-TypedClause-1 as clauses-shown}
use Rattle.typed_tree.specs.declared.stmt.TypedStmt.TheBlock.{shown-the_row-TypedStmt-0}
use Rattle.typed_tree.specs.declared.stmt.RangeEnd.TheVariants.{Included, Excluded}
use Rattle.typed_tree.specs.declared.stmt.Source.{Source}
use Rattle.typed_tree.specs.declared.stmt.Source.TheVariants.{Range, List as ListSource}
use Rattle.typed_tree.specs.declared.stmt.UpdateTarget.{UpdateTarget}
use Rattle.typed_tree.specs.declared.stmt.UpdateTarget.TheVariants as target
use denote.Hole.Carrier
use mathlib.Core.Former
use Rattle.std.specs.Global.{Global}
use Rattle.std.specs.formers.vec.Vec
use Rattle.typed_tree.specs.declared.unit.Captured.{Captured}
use Rattle.typed_tree.specs.SharedTypes.{sem_of}
use Rattle.held_operations.specs.Constructs.{operations_of, operator_operations, perform_operations}
use Rattle.eval_model.specs.Expressions.{captures, check_ends, error_type, eval, nil_type}
use Rattle.eval_model.specs.Loops.{begins_loop, behind_loop, from_loop, raises, round, tries as eval_tries, turn}
use Rattle.held_operations.specs.Operation.{singleton}
use Rattle.eval_model.specs.Statements.{branch, exec, match_rows, reads_member, rows, tries_row, updates}
use Rattle.eval_model.specs.Tasks.{Loop, AsLongAs, OverRange, OverList, MatchRow, Branch, Whole, These, Kept, Block, Round, Rows, Task, Eval, Exec, Do, Get, Choose, Turn, Guard, dos, evals, execs}
use Rattle.eval_model.specs.Walk.{CapturesOver, OpsOver, ForkOver, ExprOver, RowOver, ExprsOver, UpdateOver, TriesOver, PreparesOver, LoopOver, loop_of, BeginsOver, PatternOver, PatternsOver, StmtOver, StmtsOver, ClausesOver, BlockOver}
use Rattle.eval_model.specs.TaskWalk.{body_of, ThenOver, TurnsOver, RoundOver, MatchRowOver, RowsOver, BranchOver, TasksOver}
use Rattle.eval_model.specs.Laws.{ChoiceKeepsWays, EvalKeepsWays, ExecKeepsWays, TurnKeepsWays}
use Rattle.eval_model.specs.Ways.{Ways, Turns, AreWays}

module _ {Pt : Type 0} (w : Ways Pt) (are : AreWays w) where
  abbrev Loops : Type 0
  Loops = Option (Turns Pt)

  abbrev Over : List Task → Pt → Loops → Type 0
  Over ts p loop = TasksOver w ts p loop

  abbrev Ops : List Operation → Pt → Pt → Type 0
  Ops ops p q = OpsOver w ops p q

  abbrev Blocks : List TypedStmt → Loops → Pt → Pt → Type 0
  Blocks ss loop p q = BlockOver w ss loop p q

  abbrev Exprs : TypedExpr → Pt → Pt → Type 0
  Exprs e p q = ExprOver w e p q

  -- ---- what stands behind nothing

  pub comes-over : (ts : List Task) {p q : Pt} (loop : Loops) → w.comes p q → Over ts q loop → Over ts p loop
  comes-over [] loop c (none, end) = (none, are.ends _ _ c end)
  comes-over (Turn t ∷ ts) loop c (l, outer, is, d, at, f) = (l, outer, is, are.come _ _ _ c d, at, f)
  comes-over (Guard vs ∷ ts) loop c (m, q, outer, none, d, at, f) = (m, q, outer, none, are.come _ _ _ c d, at, f)
  comes-over (Eval e ∷ ts) loop c (m, r, d, at, f) = (m, r, are.come _ _ _ c d, at, f)
  comes-over (Exec s ∷ ts) loop c (m, r, d, at, f) = (m, r, are.come _ _ _ c d, at, f)
  comes-over (Do op ∷ ts) loop c (m, r, d, at, f) = (m, r, are.come _ _ _ c d, at, f)
  comes-over (Get x y ∷ ts) loop c (m, r, d, at, f) = (m, r, are.come _ _ _ c d, at, f)
  comes-over (Choose a b ∷ ts) loop c (m, r, d, at, f) = (m, r, are.come _ _ _ c d, at, f)

  -- ---- several tasks of a kind

  pub evals-over : (es : List TypedExpr) (ts : List Task) (p q : Pt) (loop : Loops) → ExprsOver w es p q → Over ts q loop → Over (evals es ts) p loop
  evals-over [] ts p q loop c f = comes-over ts loop c f
  evals-over (e ∷ es) ts p q loop (m, at, more) f = (p, m, are.here p, at, evals-over es ts m q loop more f)

  captures-over : (cs : List Captured) (ts : List Task) (p q : Pt) (loop : Loops) → CapturesOver w cs p q → Over ts q loop → Over (captures cs ts) p loop
  captures-over [] ts p q loop c f = comes-over ts loop c f
  captures-over (c ∷ cs) ts p q loop (m, get, more) f = (p, m, are.here p, get, captures-over cs ts m q loop more f)

  pub dos-over : (ops : List Operation) (ts : List Task) (p q : Pt) (loop : Loops) → Ops ops p q → Over ts q loop → Over (dos ops ts) p loop
  dos-over [] ts p q loop c f = comes-over ts loop c f
  dos-over (op ∷ ops) ts p q loop (m, at, more) f = (p, m, are.here p, at, dos-over ops ts m q loop more f)

  pub execs-over : (ss : List TypedStmt) (ts : List Task) (p q : Pt) (loop : Loops) → Blocks ss loop p q → Over ts q loop → Over (execs ss ts) p loop
  execs-over [] ts p q loop c f = comes-over ts loop c f
  execs-over (s ∷ ss) ts p q loop (m, at, more) f = (p, m, are.here p, at, execs-over ss ts m q loop more f)

  -- ---- rows as lists

  row-exprs : {n : _} (row : Row_of-TypedExpr n) (p q : Pt) → RowOver w row p q → ExprsOver w (exprs_in _ row) p q
  row-exprs end_of-TypedExpr p q e = e
  row-exprs (more_of-TypedExpr e rest) p q (m, at, more) = (m, at, row-exprs rest m q more)

  row-block : {n : _} (row : Row_of-TypedStmt n) (loop : Loops) (p q : Pt) → StmtsOver w row loop p q → Blocks (stmts_in _ row) loop p q
  row-block end_of-TypedStmt loop p q e = e
  row-block (more_of-TypedStmt s rest) loop p q (m, at, more) = (m, at, row-block rest loop m q more)

  abbrev shown : (shape : (Vec.the_former (Former.this {0}) Global).Shape) → Row_of-TypedStmt (Former.arity (Vec.the_former (Former.this {0}) Global) shape) → List TypedStmt
  shown shape row = (shown-the_row-TypedStmt-0 shape row).items

  shown-block : (shape : _) (row : _) (loop : Loops) (p q : Pt) → StmtsOver w row loop p q → Blocks (shown shape row) loop p q
  shown-block shape row loop p q at = subst (λ ss. Blocks ss loop p q) (sym (stmts-shown shape row)) (row-block row loop p q at)

  -- ---- matches

  abbrev Rows' : ℕ → List MatchRow → Loops → Pt → Pt → Type 0
  Rows' own rs loop p q = RowsOver w own rs loop p q

  abbrev Row' : Option Constant → ℕ → List TypedStmt → (Pt → Type 0) → Loops → Pt → Pt → Type 0
  Row' c own body Next loop p q = MatchRowOver w c own body Next loop p q

  rows-behind : (own : ℕ) (rs : List MatchRow) (loop : Loops) (p r q : Pt) → w.comes p r → Rows' own rs loop r q → Rows' own rs loop p q
  rows-behind own [] loop p r q c d = are.come p r q c d
  rows-behind own (x ∷ rs) loop p r q c at = by-pattern x.pattern at
    where
      by-pattern : (pattern : Option Constant) → Row' pattern own x.body (λ n. Rows' own rs loop n q) loop r q → Row' pattern own x.body (λ n. Rows' own rs loop n q) loop p q
      by-pattern (Some k) (b, m, a, n, d, ops, t, first, u, next) = (b, m, a, n, are.come p r b c d, ops, t, first, u, next)
      by-pattern None (b, m, d, block, e) = (b, m, are.come p r b c d, block, e)

  patterns-rows : (own : ℕ) (ts : List TypedPattern) (body : List TypedStmt) (rs : List MatchRow) (loop : Loops) (b m p r q : Pt) → PatternsOver w own ts b p r → Blocks body loop b m → w.comes m q → Rows' own rs loop r q → Rows' own (map (λ t. record { pattern = t.value; body = body }) ts ++ rs) loop p q
  patterns-rows own [] body rs loop b m p r q c block out next = rows-behind own rs loop p r q c next
  patterns-rows own (t ∷ ts) body rs loop b m p r q at block out next =
      by-pattern t.value at (λ n a. patterns-rows own ts body rs loop b m n r q a block out next)
    where
      by-pattern : {Next Then : Pt → Type 0} (pattern : Option Constant) → PatternOver w own pattern Next b p → ((n : Pt) → Next n → Then n) → Row' pattern own body Then loop p q
      by-pattern (Some k) (i, x, n, ops, t, c, u, a) go = (p, i, x, n, are.here p, ops, t, (b, m, c, block, out), u, go n a)
      by-pattern None c go = (b, m, c, block, out)

  clauses-rows : {n : _} (own : ℕ) (row : Row_of-TypedClause n) (loop : Loops) (p q : Pt) → ClausesOver w own row loop p q → Rows' own (match_rows (clauses_in _ row)) loop p q
  clauses-rows own end_of-TypedClause loop p q c = c
  clauses-rows own (more_of-TypedClause patterns shape stmts at rest) loop p q (n, b, m, ps, block, out, next) =
      patterns-rows own patterns.items (shown shape stmts) (match_rows (clauses_in _ rest)) loop b m p n q ps (shown-block shape stmts loop b m block) out (clauses-rows own rest loop n q next)

  rows-over : (own : ℕ) (rs : List MatchRow) (ts : List Task) (p q : Pt) (loop : Loops) → Rows' own rs loop p q → Over ts q loop → Over (rows own rs ts) p loop
  rows-over own [] ts p q loop c f = comes-over ts loop c f
  rows-over own (r ∷ rs) ts p q loop at f = by-pattern r.pattern at
    where
      by-pattern : (pattern : Option Constant) → Row' pattern own r.body (λ n. Rows' own rs loop n q) loop p q → Over (tries_row own pattern r.body rs ts) p loop
      by-pattern (Some k) (b, m, a, n, c, ops, t, first, u, next) =
          comes-over (dos (Load own ∷ Test (singleton k) ∷ []) (Choose (Block r.body) (Rows own rs) ∷ ts)) loop c
          (dos-over (Load own ∷ Test (singleton k) ∷ []) (Choose (Block r.body) (Rows own rs) ∷ ts) b m loop ops (m, q, are.here m, (a, n, t, first, u, next), f))
      by-pattern None (b, m, c, block, d) =
          comes-over (execs r.body ts) loop c (execs-over r.body ts b m loop block (comes-over ts loop d f))

  -- ---- a branch that was chosen, and the rest behind it

  fork-choice : {First Second : Pt → Pt → Type 0} (p q : Pt) → ForkOver w First Second p q → (a b : Pt) × w.takes true p a × ThenOver w First a q × w.takes false p b × ThenOver w Second b q
  fork-choice p q (a, m, b, n, t, x, c, u, y, d) = (a, b, t, (a, m, are.here a, x, c), u, (b, n, are.here b, y, d))

  abbrev Found : List Task → Pt → Type 0
  Found ts p = (loop : Loops) × Over ts p loop

  abbrev Rounds : Loop → Pt → Pt → Type 0
  Rounds loop p q = RoundOver w loop p q

  round-over : (turning : Loop) (ts : List Task) (p q : Pt) (outer : Loops) → Rounds turning p q → Over ts q outer → Found (round turning (Turn turning ∷ ts)) p
  round-over turning ts p q outer (l, n, k, turns, prepares, block, c, d) f =
      let rest : Over (Turn turning ∷ ts) k (Some l) = (l, outer, refl, c, turns, comes-over ts outer d f) in
      let body : Over (execs (body_of turning) (Turn turning ∷ ts)) n (Some l) = execs-over (body_of turning) (Turn turning ∷ ts) n k (Some l) block rest in
      (Some l, prepared (Some l) (Turn turning ∷ ts) turning prepares body)
    where
      prepared : (l : Loops) (us : List Task) (turning : Loop) → PreparesOver w turning p n → Over (execs (body_of turning) us) n l → Over (round turning us) p l
      prepared l us (AsLongAs condition body) c g = comes-over (execs body us) l c g
      prepared l us (OverRange Included slot own body) (m, ops, fork) g =
          dos-over (Load own ∷ Store slot ∷ Load own ∷ Load (own + 1) ∷ Less ∷ Store (own + 2) ∷ Load (own + 2) ∷ []) (Choose (These (raises own)) (These []) ∷ execs body us) p m l ops (m, n, are.here m, fork-choice m n fork, g)
      prepared l us (OverRange Excluded slot own body) ops g = dos-over (Load own ∷ Store slot ∷ raises own) (execs body us) p n l ops g
      prepared l us (OverList slot own body) ops g = dos-over (Load own ∷ Load (own + 1) ∷ GetItem ∷ Store slot ∷ []) (execs body us) p n l ops g

  pub branch-over : (b : Branch) (ts : List Task) (p q : Pt) (loop : Loops) → BranchOver w b loop p q → Over ts q loop → Found (branch b ts) p
  branch-over (Whole e) ts p q loop (b, m, c, at, d) f = (loop, (b, m, c, at, comes-over ts loop d f))
  branch-over (These ops) ts p q loop (b, m, c, at, d) f = (loop, comes-over (dos ops ts) loop c (dos-over ops ts b m loop at (comes-over ts loop d f)))
  branch-over (Kept slot type ops) ts p q loop (b, m, c, (k, get, at), d) f = (loop, (b, k, c, get, dos-over ops ts k m loop at (comes-over ts loop d f)))
  branch-over (Block ss) ts p q loop (b, m, c, at, d) f = (loop, comes-over (execs ss ts) loop c (execs-over ss ts b m loop at (comes-over ts loop d f)))
  branch-over (Round turning) ts p q loop at f = round-over turning ts p q loop at f
  branch-over (Rows own rs) ts p q loop at f = (loop, rows-over own rs ts p q loop at f)

  -- ---- leaving loops

  some-one : {A : Type 0} (x y : A) → Some x ≡ Some y → x ≡ y
  some-one x y e = let q : x ≡ y = cc in q

  behind-over : (ts : List Task) (p : Pt) (l : Turns Pt) → Over ts p (Some l) → Found (behind_loop ts) l.exit
  behind-over [] p l (none, e) = absurd (let bad : ⊥ = cc in bad)
  behind-over (Turn t ∷ ts) p l (k, outer, is, d, at, f) = (outer, subst (λ x. Over ts x.exit outer) (sym (some-one l k is)) f)
  behind-over (Guard vs ∷ ts) p l (m, q, outer, none, d, at, f) = absurd (let bad : ⊥ = cc in bad)
  behind-over (Eval e ∷ ts) p l (m, q, d, at, f) = behind-over ts q l f
  behind-over (Exec s ∷ ts) p l (m, q, d, at, f) = behind-over ts q l f
  behind-over (Do op ∷ ts) p l (m, q, d, at, f) = behind-over ts q l f
  behind-over (Get x y ∷ ts) p l (m, q, d, at, f) = behind-over ts q l f
  behind-over (Choose a b ∷ ts) p l (m, q, d, at, f) = behind-over ts q l f

  from-over : (ts : List Task) (p : Pt) (l : Turns Pt) → Over ts p (Some l) → Found (from_loop ts) l.head
  from-over [] p l (none, e) = absurd (let bad : ⊥ = cc in bad)
  from-over (Turn t ∷ ts) p l (k, outer, is, d, at, f) =
      let same = some-one l k is in
      (Some k, subst (λ x. Over (Turn t ∷ ts) x.head (Some k)) (sym same) (k, outer, refl, are.here k.head, at, f))
  from-over (Guard vs ∷ ts) p l (m, q, outer, none, d, at, f) = absurd (let bad : ⊥ = cc in bad)
  from-over (Eval e ∷ ts) p l (m, q, d, at, f) = from-over ts q l f
  from-over (Exec s ∷ ts) p l (m, q, d, at, f) = from-over ts q l f
  from-over (Do op ∷ ts) p l (m, q, d, at, f) = from-over ts q l f
  from-over (Get x y ∷ ts) p l (m, q, d, at, f) = from-over ts q l f
  from-over (Choose a b ∷ ts) p l (m, q, d, at, f) = from-over ts q l f

  -- ---- expressions

  -- a trap is opened on the way, or nothing is done
  abbrev pub Arrived : List Task → Pt → Type 0
  Arrived ts p = (a : Pt) × (loop : Loops) × w.arrives p a × Over ts a loop

  pub eval-over : (e : TypedExpr) (vs : List Value) (ts : List Task) (p q : Pt) (loop : Loops) → Exprs e p q → Over ts q loop → Arrived (eval e vs ts) p
  unfolding out-TypedExpr Carrier.out
  eval-over (Strict' form shape operands type at) vs ts p q loop (m, os, ops) f = (
    p,
    loop,
    are.stays p,
    (subst (λ es. Over (evals es (dos (operations_of form (length es)) ts)) p loop) (sym (exprs-shown shape operands))
        (evals-over (exprs_in _ operands) _ p m loop (row-exprs operands p m os) (dos-over (operations_of form (length (exprs_in _ operands))) ts m q loop ops f))),
  )
  eval-over (Implied value type at) vs ts p q loop h f = (p, loop, are.stays p, (p, q, are.here p, h, f))
  eval-over (Variable slot narrowed type at) vs ts p q loop h f = (p, loop, are.stays p, (p, q, are.here p, h, f))
  eval-over (And' _ left _ right type at) vs ts p q loop (m, a, fork) f = (p, loop, are.stays p, (p, m, are.here p, a, (m, q, are.here m, fork-choice m q fork, f)))
  eval-over (Or' _ left _ right type at) vs ts p q loop (m, a, fork) f = (p, loop, are.stays p, (p, m, are.here p, a, (m, q, are.here m, fork-choice m q fork, f)))
  eval-over (Conditional' _ condition _ middle _ last type at) vs ts p q loop (m, a, fork) f = (p, loop, are.stays p, (p, m, are.here p, a, (m, q, are.here m, fork-choice m q fork, f)))
  eval-over (Elvis' own _ left _ right type at) vs ts p q loop (m, n, a, ops, fork) f =
      (p, loop, are.stays p, (p, m, are.here p, a, dos-over (Store own ∷ Load own ∷ Test nil_type ∷ []) (Choose (Whole right) (Kept own (sem_of type) []) ∷ ts) m n loop ops (n, q, are.here n, fork-choice n q fork, f)))
  eval-over (Check' panics own _ operand type at) vs ts p q loop (m, n, a, ops, fork) f =
      (p, loop, are.stays p, (p, m, are.here p, a, dos-over (Store own ∷ Load own ∷ Test error_type ∷ []) (Choose (Kept own error_type (check_ends panics ∷ [])) (Kept own (sem_of type) []) ∷ ts) m n loop ops (n, q, are.here n, fork-choice n q fork, f)))
  eval-over (Trap' _ operand type at) vs ts p q loop (a, b, g, x) f = (a, None, are.opens p a b q g, (a, b, are.here a, x, (b, q, loop, refl, are.here b, are.closes p a b q g, f)))
  eval-over (Function' function _ value type at) vs ts p q loop (m, cs, makes) f =
      (p, loop, are.stays p, captures-over function.value.captured _ p m loop cs (m, q, are.here m, makes, f))
  eval-over (Parens' _ inner type at) vs ts p q loop a f = (p, loop, are.stays p, (p, q, are.here p, a, f))

  -- ---- statements

  updates-over : (t : UpdateTarget) (op : Operator) (value : TypedExpr) (ts : List Task) (p q : Pt) (loop : Loops) → UpdateOver w t op value p q → Over ts q loop → Over (updates t op value ts) p loop
  updates-over (target.Local slot narrowed type) op value ts p q loop (m, n, k, get, a, ops, o) f =
      (p, m, are.here p, get, (m, n, are.here m, a, dos-over (operator_operations op) _ n k loop ops (k, q, are.here k, o, f)))
  updates-over (target.Variable x) op value ts p q loop (m, n, k, get, a, ops, o) f =
      (p, m, are.here p, get, (m, n, are.here m, a, dos-over (operator_operations op) _ n k loop ops (k, q, are.here k, o, f)))
  updates-over (target.Member own how container key type) op value ts p q loop (a, b, c, d, m, n, k, x, s, y, t, reads, v, ops, o) f = (
    p,
    a,
    are.here p,
    x,
    (
      a,
      b,
      are.here a,
      s,
      (
        b,
        c,
        are.here b,
        y,
        (
          c,
          d,
          are.here c,
          t,
          dos-over (Load own ∷ Load (own + 1) ∷ reads_member how own) _ d m loop reads
              (m, n, are.here m, v, dos-over (operator_operations op) _ n k loop ops (k, q, are.here k, o, f)),
        ),
      ),
    ),
  )

  abbrev Turning : Type 0
  Turning = Turns Pt

  turns : (turning : Loop) (ts : List Task) (p q : Pt) (l : Turning) (outer : Loops) → w.comes p l.head → TurnsOver w turning l → w.comes l.exit q → Over ts q outer → Over (Turn turning ∷ ts) p (Some l)
  turns turning ts p q l outer c at d f = (l, outer, refl, c, at, comes-over ts outer d f)

  begins-over : (slot : ℕ) (source : Source) (body : List TypedStmt) (ts : List Task) (p m q : Pt) (l : Turning) (outer : Loops) → BeginsOver w source p m → w.comes m l.head → LoopOver w (loop_of w slot source) (λ l. Blocks body (Some l)) l → w.comes l.exit q → Over ts q outer → Over (begins_loop slot source body ts) p (Some l)
  begins-over slot (Range own Included from to) body ts p m q l outer (a, b, c, d, x, s, y, t, ops) j at e f = (
    p,
    a,
    are.here p,
    x,
    (
      a,
      b,
      are.here a,
      s,
      (
        b,
        c,
        are.here b,
        y,
        (
          c,
          d,
          are.here c,
          t,
          dos-over (Load own ∷ Load (own + 1) ∷ LessEqual ∷ Store (own + 2) ∷ []) (Turn (OverRange Included slot own body) ∷ ts) d m (Some l) ops (turns (OverRange Included slot own body) ts m q l outer j at e f),
        ),
      ),
    ),
  )
  begins-over slot (Range own Excluded from to) body ts p m q l outer (a, b, c, x, s, y, t) j at e f =
      (p, a, are.here p, x, (a, b, are.here a, s, (b, c, are.here b, y, (c, m, are.here c, t, turns (OverRange Excluded slot own body) ts m q l outer j at e f))))
  begins-over slot (ListSource own list) body ts p m q l outer (a, x, ops) j at e f =
      (p, a, are.here p, x, dos-over (Store own ∷ Const (constant.Int (negsuc 0)) ∷ Store (own + 1) ∷ []) (Turn (OverList slot own body) ∷ ts) a m (Some l) ops (turns (OverList slot own body) ts m q l outer j at e f))

  loop-shown : (turning : Loop) (shape : _) (row : _) (l : Turning) → LoopOver w turning (λ l. StmtsOver w row (Some l)) l → LoopOver w turning (λ l. Blocks (shown shape row) (Some l)) l
  loop-shown turning shape row l (t, m, a, b, n, k, tick, tries, way, u, out, prepares, block, c) =
      (t, m, a, b, n, k, tick, tries, way, u, out, prepares, shown-block shape row (Some l) n k block, c)

  pub exec-over : (s : TypedStmt) (ts : List Task) (p q : Pt) (loop : Loops) → StmtOver w s loop p q → Over ts q loop → Found (exec s ts) p
  unfolding out-TypedStmt Carrier.out
  exec-over (Set slot value at) ts p q loop (m, a, o) f = (loop, (p, m, are.here p, a, (m, q, are.here m, o, f)))
  exec-over (Perform form operands at) ts p q loop (m, os, ops) f = (loop, evals-over operands.items _ p m loop os (dos-over (perform_operations form) ts m q loop ops f))
  exec-over (Update t op value at) ts p q loop u f = (loop, updates-over t op value.value ts p q loop u f)
  exec-over (If' condition shape first shape' second at) ts p q loop (m, a, (i, k, j, n, t, x, c, u, y, d)) f =
      (loop, (p, m, are.here p, a, (m, q, are.here m, (i, j, t, (i, k, are.here i, shown-block shape first loop i k x, c), u, (j, n, are.here j, shown-block shape' second loop j n y, d)), f)))
  exec-over (While' condition shape body at) ts p q loop (l, c, way, d) f =
      (Some l, turns (AsLongAs condition.value (shown shape body)) ts p q l loop c (loop-shown (AsLongAs condition.value []) shape body l way) d f)
  exec-over (Foreach' slot source shape body at) ts p q loop (m, l, b, c, way, d) f =
      (Some l, begins-over slot source (shown shape body) ts p m q l loop b c (loop-shown (loop_of w slot source) shape body l way) d f)
  exec-over (Match' own subject shape clauses at) ts p q loop (m, n, a, o, cs) f = (
    loop,
    (
      p,
      m,
      are.here p,
      a,
      (
        m,
        n,
        are.here m,
        o,
        subst (λ x. Over (rows own (match_rows x) ts) n loop) (sym (clauses-shown shape clauses)) (rows-over own _ ts n q loop (clauses-rows own clauses loop n q cs) f),
      ),
    ),
  )
  exec-over (Return None at) ts p q loop ops f = (loop, dos-over (Const constant.Nil ∷ ReturnOp ∷ []) ts p q loop ops f)
  exec-over (Return (Some e) at) ts p q loop (m, a, o) f = (loop, (p, m, are.here p, a, (m, q, are.here m, o, f)))
  exec-over (BlockStmt shape stmts at) ts p q loop at' f = (loop, execs-over (shown shape stmts) ts p q loop (shown-block shape stmts loop p q at') f)
  exec-over (Break at) ts p q (Some k) (c, s) f = let g = behind-over ts q k f in (g.0, comes-over (behind_loop ts) g.0 c g.1)
  exec-over (Continue at) ts p q (Some k) (c, s) f = let g = from-over ts q k f in (g.0, comes-over (from_loop ts) g.0 c g.1)
  exec-over (Break at) ts p q None (h, s) f = absurd h
  exec-over (Continue at) ts p q None (h, s) f = absurd h

  -- ---- the next turn of a loop

  pub turn-over : (turning : Loop) (ts : List Task) (l : Turning) (outer : Loops) → TurnsOver w turning l → Over ts l.exit outer → Over (turn turning ts) l.head outer
  turn-over turning ts l outer (t, m, a, b, n, k, tick, tries, way, u, out, prepares, block, c) f = (
    l.head,
    t,
    are.here l.head,
    tick,
    tried (Choose (Round turning) (These []) ∷ ts) turning tries
        (m, l.exit, are.here m, (a, b, way, (l, n, k, (t, m, a, b, n, k, tick, tries, way, u, out, prepares, block, c), prepares, block, c, are.here l.exit), u, (b, b, are.here b, are.here b, out)), f),
  )
    where
      tried : (us : List Task) (turning : Loop) → TriesOver w turning t m → Over us m outer → Over (eval_tries turning us) t outer
      tried us (AsLongAs condition body) a g = (t, m, are.here t, a, g)
      tried us (OverRange Included slot own body) ops g = dos-over (Load (own + 2) ∷ []) us t m outer ops g
      tried us (OverRange Excluded slot own body) ops g = dos-over (Load own ∷ Load (own + 1) ∷ Less ∷ []) us t m outer ops g
      tried us (OverList slot own body) ops g = dos-over (raises (own + 1) ++ Load (own + 1) ∷ Load own ∷ Library ListLength None 1 ∷ Less ∷ []) us t m outer ops g

-- ---- the laws

module _ {Pt : Type 0} (w : Ways Pt) where
  pub evals-keep : EvalKeepsWays w
  evals-keep are e vs ts p (loop, (m, q, c, at, f)) =
      let g : Arrived w are (eval e vs ts) m = eval-over w are e vs ts m q loop at f in
      (m, g.0, c, g.2, (g.1, g.3))

  pub execs-keep : ExecKeepsWays w
  execs-keep are s ts p (loop, (m, q, c, at, f)) = (m, c, exec-over w are s ts m q loop at f)

  pub choices-keep : ChoiceKeepsWays w
  choices-keep are first second ts p (loop, (m, q, c, (a, b, t, x, u, y), f)) =
      (m, a, b, c, t, branch-over w are first ts a q loop x f, u, branch-over w are second ts b q loop y f)

  pub turns-keep : TurnKeepsWays w
  turns-keep are turning ts p (loop, (l, outer, is, c, at, f)) = (l.head, c, (outer, turn-over w are turning ts l outer at f))
