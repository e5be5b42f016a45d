-- The ways through code put together: jumps behind jumps are jumps, and each way through a tree ends in the traps in which it begins.
use Rattle.std.proofs.Common.{◌≡◌, ◌∙◌, ℕ, ◌+◌, ◌++◌, List, [], ◌∷◌, Option, Some, None, refl, sym, ap, inl, inr, true}
use Rattle.std.specs.Prelude.{length, negsuc}
use Rattle.type_model.specs.declared.basic.SemType.{SemType}
use Rattle.operations.specs.declared.library.LibraryCall.TheVariants.{ListLength}
use Rattle.operations.specs.declared.operation.Constant.{Constant}
use Rattle.operations.specs.declared.operation.Constant.TheVariants as constant
use Rattle.operations.specs.declared.operation.Operation.{Operation}
use Rattle.operations.specs.declared.operation.Operation.TheVariants.{Const, Load, LoadModule, Store, StoreModule, Less, LessEqual, Library, Test, Tick, Cast, Return as ReturnOp}
use Rattle.typed_tree.specs.declared.expr.TypedExpr.{TypedExpr, Strict', Implied, Local as Variable, And', Or', Conditional', Elvis', Check', Trap', Function', Parens', Row_of-TypedExpr, end_of-TypedExpr, more_of-TypedExpr, items-the_row-TypedExpr as exprs_in}
use Rattle.typed_tree.specs.declared.form.Operator.{Operator}
use Rattle.typed_tree.specs.declared.stmt.RangeEnd.TheVariants.{Included, Excluded}
use Rattle.typed_tree.specs.declared.stmt.Source.{Source}
use Rattle.typed_tree.specs.declared.stmt.Source.TheVariants.{Range, List as ListSource}
use Rattle.typed_tree.specs.declared.stmt.TypedPattern.{TypedPattern}
use Rattle.typed_tree.specs.declared.stmt.TypedStmt.{TypedStmt, Set, Perform, Update, If', While', Foreach', Match', Return, Block' as BlockStmt, Break, Continue, Row_of-TypedStmt, end_of-TypedStmt, more_of-TypedStmt, Row_of-TypedClause, end_of-TypedClause, more_of-TypedClause}
use Rattle.typed_tree.specs.declared.stmt.UpdateTarget.{UpdateTarget}
use Rattle.typed_tree.specs.declared.stmt.UpdateTarget.TheVariants as target
use Rattle.typed_tree.specs.declared.unit.Captured.{Captured}
use Rattle.held_operations.specs.Constructs.{operations_of, operator_operations, perform_operations}
use Rattle.held_operations.specs.Operation.{singleton}
use Rattle.eval_model.specs.Expressions.{error_type, makes_function, narrowed_to, nil_type}
use Rattle.eval_model.specs.Loops.{raises}
use Rattle.eval_model.specs.Statements.{reads_member, sets_member}
use Rattle.eval_model.specs.Tasks.{Loop, AsLongAs, OverRange, OverList}
use Rattle.eval_model.specs.Walk.{CapturesOver, OpsOver, ForkOver, ExprOver, RowOver, ExprsOver, UpdateOver, TriesOver, LoopOver, loop_of, BeginsOver, PatternOver, PatternsOver, StmtOver, StmtsOver, ClausesOver}
use Rattle.eval_model.specs.Ways.{AreWays, Turns, Ways}
use Rattle.stack_code.specs.declared.code.Code.{Code}
use Rattle.lower_model.specs.Lowered.{Comes, here, by, Does, Gets, Spot, code_ways}

module _ (code : Code) where
  pub comes-then : {p q r : ℕ} → Comes code p q → Comes code q r → Comes code p r
  comes-then here d = d
  comes-then (by h c) d = by h (comes-then c d)

  abbrev W : Ways Spot
  W = code_ways code

  pub are-ways : AreWays W
  are-ways =
      record {
        here = λ p. (here, refl);
        come = λ p q r c d. (comes-then c.0 d.0, d.1 ∙ c.1);
        stays = λ p. inl refl;
        opens = λ p a b q (landing, opens, closes, same). inr (landing, opens);
        closes = λ p a b q (landing, opens, closes, same). (landing, closes);
        ends = λ p q c e. sym c.1 ∙ e;
      }

  -- ---- it ends in the traps in which it begins

  abbrev pub InSameTraps : Spot → Spot → Type 0
  InSameTraps p q = q.landings ≡ p.landings

  pub does-stays : (op : Operation) (p q : Spot) → Does code op p q → InSameTraps p q
  does-stays op p q (at, is) = ap (λ x. x.landings) is

  pub gets-stays : (slot : ℕ) (narrowed : Option SemType) (p q : Spot) → Gets code slot narrowed p q → InSameTraps p q
  gets-stays slot None p q d = does-stays (Load slot) p q d
  gets-stays slot (Some t) p q (m, d, e) = does-stays (Cast t) m q e ∙ does-stays (Load slot) p m d

  pub ops-stay : (ops : List Operation) (p q : Spot) → OpsOver W ops p q → InSameTraps p q
  ops-stay [] p q c = c.1
  ops-stay (op ∷ ops) p q (m, d, more) = ops-stay ops m q more ∙ does-stays op p m d

  captures-stay : (cs : List Captured) (p q : Spot) → CapturesOver W cs p q → InSameTraps p q
  captures-stay [] p q c = c.1
  captures-stay (c ∷ cs) p q (m, get, more) = captures-stay cs m q more ∙ gets-stays c.slot (narrowed_to c.narrowed c.ty) p m get

  pub fork-stays : {First Second : Spot → Spot → Type 0} (p q : Spot) → ForkOver W First Second p q → ((a b : Spot) → First a b → InSameTraps a b) → InSameTraps p q
  fork-stays p q (a, m, b, n, t, x, c, u, y, d) first = c.1 ∙ first a m x ∙ ap (λ s. s.landings) t.1

  -- ---- expressions

  mutual
    pub expr-stays : (e : TypedExpr) (p q : Spot) → ExprOver W e p q → InSameTraps p q
    expr-stays (Strict' form shape operands type at) p q (m, os, ops) = ops-stay (operations_of form (length (exprs_in _ operands))) m q ops ∙ row-stays operands p m os
    expr-stays (Implied value type at) p q d = does-stays (Const value) p q d
    expr-stays (Variable slot narrowed type at) p q get = gets-stays slot (narrowed_to narrowed type) p q get
    expr-stays (And' _ left _ right type at) p q (m, a, fork) = fork-stays m q fork (expr-stays right) ∙ expr-stays left p m a
    expr-stays (Or' _ left _ right type at) p q (m, a, fork) = fork-stays m q fork (ops-stay (Const (constant.Bool true) ∷ [])) ∙ expr-stays left p m a
    expr-stays (Conditional' _ condition _ middle _ last type at) p q (m, a, fork) = fork-stays m q fork (expr-stays middle) ∙ expr-stays condition p m a
    expr-stays (Elvis' own _ left _ right type at) p q (m, n, a, ops, fork) =
        fork-stays n q fork (expr-stays right) ∙ ops-stay (Store own ∷ Load own ∷ Test nil_type ∷ []) m n ops ∙ expr-stays left p m a
    expr-stays (Check' panics own _ operand type at) p q (m, n, a, ops, (x, i, y, j, t, one, c, u, (k, get, rest), d)) =
        d.1 ∙ ops-stay [] k j rest ∙ gets-stays own (Some _) y k get ∙ u.1 ∙ ops-stay (Store own ∷ Load own ∷ Test error_type ∷ []) m n ops ∙ expr-stays operand p m a
    expr-stays (Trap' _ operand type at) p q (a, b, (landing, opens, closes, same), x) = same
    expr-stays (Function' function _ value type at) p q (m, cs, makes) = does-stays (makes_function function.value) m q makes ∙ captures-stay function.value.captured p m cs
    expr-stays (Parens' _ inner type at) p q a = expr-stays inner p q a

    row-stays : {n : _} (row : Row_of-TypedExpr n) (p q : Spot) → RowOver W row p q → InSameTraps p q
    row-stays end_of-TypedExpr p q c = c.1
    row-stays (more_of-TypedExpr e rest) p q (m, a, more) = row-stays rest m q more ∙ expr-stays e p m a

  exprs-stay : (es : List TypedExpr) (p q : Spot) → ExprsOver W es p q → InSameTraps p q
  exprs-stay [] p q c = c.1
  exprs-stay (e ∷ es) p q (m, a, more) = exprs-stay es m q more ∙ expr-stays e p m a

  -- ---- assignments with an operator

  -- the value, the operator and the store
  stores-stay : (op : Operator) (value : TypedExpr) (store : Operation) (p n k q : Spot) → ExprOver W value p n → OpsOver W (operator_operations op) n k → Does code store k q → InSameTraps p q
  stores-stay op value store p n k q a ops o = does-stays store k q o ∙ ops-stay (operator_operations op) n k ops ∙ expr-stays value p n a

  update-stays : (t : UpdateTarget) (op : Operator) (value : TypedExpr) (p q : Spot) → UpdateOver W t op value p q → InSameTraps p q
  update-stays (target.Local slot narrowed type) op value p q (m, n, k, get, a, ops, o) =
      stores-stay op value (Store slot) m n k q a ops o ∙ gets-stays slot (narrowed_to narrowed type) p m get
  update-stays (target.Variable x) op value p q (m, n, k, get, a, ops, o) =
      stores-stay op value (StoreModule x) m n k q a ops o ∙ does-stays (LoadModule x) p m get
  update-stays (target.Member own how container key type) op value p q (a, b, c, d, m, n, k, x, s, y, t, reads, v, ops, o) =
      stores-stay op value (sets_member how) m n k q v ops o ∙ ops-stay (Load own ∷ Load (own + 1) ∷ reads_member how own) d m reads
      ∙ does-stays (Store (own + 1)) c d t ∙ expr-stays key.value b c y ∙ does-stays (Store own) a b s ∙ expr-stays container.value p a x

  -- ---- loops

  tries-stay : (loop : Loop) (p q : Spot) → TriesOver W loop p q → InSameTraps p q
  tries-stay (AsLongAs condition body) p q a = expr-stays condition p q a
  tries-stay (OverRange Included slot own body) p q ops = ops-stay (Load (own + 2) ∷ []) p q ops
  tries-stay (OverRange Excluded slot own body) p q ops = ops-stay (Load own ∷ Load (own + 1) ∷ Less ∷ []) p q ops
  tries-stay (OverList slot own body) p q ops = ops-stay (raises (own + 1) ++ Load (own + 1) ∷ Load own ∷ Library ListLength None 1 ∷ Less ∷ []) p q ops

  pub loop-stays : (loop : Loop) (Body : Turns Spot → Spot → Spot → Type 0) (l : Turns Spot) → LoopOver W loop Body l → InSameTraps l.head l.exit
  loop-stays loop Body l (t, m, a, b, n, k, tick, tries, way, out, c, prepares, body, back) = c.1 ∙ out.1 ∙ tries-stay loop t m tries ∙ does-stays Tick l.head t tick

  begins-stay : (source : Source) (p q : Spot) → BeginsOver W source p q → InSameTraps p q
  begins-stay (Range own Included from to) p q (a, b, c, d, x, s, y, t, ops) =
      ops-stay (Load own ∷ Load (own + 1) ∷ LessEqual ∷ Store (own + 2) ∷ []) d q ops ∙ does-stays (Store (own + 1)) c d t ∙ expr-stays to.value b c y ∙ does-stays (Store own) a b s ∙ expr-stays from.value p a x
  begins-stay (Range own Excluded from to) p q (a, b, c, x, s, y, t) =
      does-stays (Store (own + 1)) c q t ∙ expr-stays to.value b c y ∙ does-stays (Store own) a b s ∙ expr-stays from.value p a x
  begins-stay (ListSource own list) p q (a, x, ops) = ops-stay (Store own ∷ Const (constant.Int (negsuc 0)) ∷ Store (own + 1) ∷ []) a q ops ∙ expr-stays list.value p a x

  -- ---- statements

  -- a pattern leads to the body, where there is one
  to-body : (Next : Spot → Type 0) (own : ℕ) (value : Option Constant) (b p : Spot) → PatternOver W own value Next b p → InSameTraps p b
  to-body Next own (Some c) b p (m, a, n, ops, way, out, u, rest) = out.1 ∙ ap (λ s. s.landings) way.1 ∙ ops-stay (Load own ∷ Test (singleton c) ∷ []) p m ops
  to-body Next own None b p c = c.1

  clause-stays : (own : ℕ) (ts : List TypedPattern) (b m p n q : Spot) → PatternsOver W own ts b p n → InSameTraps b m → W.comes m q → InSameTraps n q → InSameTraps p q
  clause-stays own [] b m p n q d block c more = more ∙ d.1
  clause-stays own (t ∷ ts) b m p n q d block c more = c.1 ∙ block ∙ to-body (λ i. PatternsOver W own ts b i n) own t.value b p d

  mutual
    pub stmt-stays : (s : TypedStmt) (loop : Option (Turns Spot)) (p q : Spot) → StmtOver W s loop p q → InSameTraps p q
    stmt-stays (Set slot value at) loop p q (m, a, o) = does-stays (Store slot) m q o ∙ expr-stays value.value p m a
    stmt-stays (Perform form operands at) loop p q (m, os, ops) = ops-stay (perform_operations form) m q ops ∙ exprs-stay operands.items p m os
    stmt-stays (Update t op value at) loop p q u = update-stays t op value.value p q u
    stmt-stays (If' condition shape first shape' second at) loop p q (m, a, fork) = fork-stays m q fork (block-stays first loop) ∙ expr-stays condition.value p m a
    stmt-stays (While' condition shape body at) loop p q (l, c, way, d) = d.1 ∙ loop-stays (AsLongAs condition.value []) (λ l. StmtsOver W body (Some l)) l way ∙ c.1
    stmt-stays (Foreach' slot source shape body at) loop p q (m, l, b, c, way, d) =
        d.1 ∙ loop-stays (loop_of W slot source) (λ l. StmtsOver W body (Some l)) l way ∙ c.1 ∙ begins-stay source p m b
    stmt-stays (Match' own subject shape clauses at) loop p q (m, n, a, o, cs) = clauses-stay own clauses loop n q cs ∙ does-stays (Store own) m n o ∙ expr-stays subject.value p m a
    stmt-stays (Return None at) loop p q ops = ops-stay (Const constant.Nil ∷ ReturnOp ∷ []) p q ops
    stmt-stays (Return (Some e) at) loop p q (m, a, o) = does-stays ReturnOp m q o ∙ expr-stays e.value p m a
    stmt-stays (BlockStmt shape stmts at) loop p q ss = block-stays stmts loop p q ss
    stmt-stays (Break at) loop p q (out, same) = same
    stmt-stays (Continue at) loop p q (out, same) = same

    block-stays : {n : _} (row : Row_of-TypedStmt n) (loop : Option (Turns Spot)) (p q : Spot) → StmtsOver W row loop p q → InSameTraps p q
    block-stays end_of-TypedStmt loop p q c = c.1
    block-stays (more_of-TypedStmt s rest) loop p q (m, a, more) = block-stays rest loop m q more ∙ stmt-stays s loop p m a

    clauses-stay : {n : _} (own : ℕ) (row : Row_of-TypedClause n) (loop : Option (Turns Spot)) (p q : Spot) → ClausesOver W own row loop p q → InSameTraps p q
    clauses-stay own end_of-TypedClause loop p q c = c.1
    clauses-stay own (more_of-TypedClause patterns shape stmts at rest) loop p q (n, b, m, ps, block, c, more) =
        clause-stays own patterns.items b m p n q ps (block-stays stmts loop b m block) c (clauses-stay own rest loop n q more)
