-- Through what is typed as it is written there is a way of types: its points are those of the maps.
use Rattle.std.proofs.Common.{◌≡◌, ℕ, ◌+◌, ◌++◌, List, [], ◌∷◌, Option, Some, None, Bool, true, false, refl, ap, length, sym, subst, map}
use Rattle.std.specs.Prelude.{negsuc}
use Rattle.type_model.specs.declared.atoms.AtomDef.{AtomDef}
use Rattle.type_model.specs.declared.basic.SemType.{SemType}
use Rattle.operations.specs.declared.operation.Constant.{Constant}
use Rattle.operations.specs.declared.operation.Constant.TheVariants as constant
use Rattle.operations.specs.declared.operation.Operation.{Operation}
use Rattle.operations.specs.declared.operation.Operation.TheVariants.{Const, GetItem, Less, LessEqual, Load, Store, StoreModule, Test, Return as ReturnOp}
use Rattle.operations.specs.Rows.{AreBelow, Surroundings}
use Rattle.typed_tree.specs.declared.expr.TypedExpr.{TypedExpr, Strict', Implied, Local as Variable, And', Or', Conditional', Elvis', Check', Trap', Function', Parens', out-TypedExpr, Row_of-TypedExpr, end_of-TypedExpr, more_of-TypedExpr, items-the_row-TypedExpr as exprs_in}
use Rattle.typed_tree.specs.declared.form.Operator.{Operator}
use Rattle.typed_tree.specs.declared.package.Initial.{Initial}
use Rattle.typed_tree.specs.declared.stmt.RangeEnd.TheVariants.{Included, Excluded}
use Rattle.typed_tree.specs.declared.stmt.Source.{Source}
use Rattle.typed_tree.specs.declared.stmt.Source.TheVariants.{Range, List as ListSource}
use Rattle.typed_tree.specs.declared.stmt.TypedPattern.{TypedPattern}
use Rattle.typed_tree.specs.declared.stmt.TypedStmt.{TypedStmt, Set, Perform, Update, If', While', Foreach', Match', Return, Block' as BlockStmt, Break, Continue, Row_of-TypedStmt, end_of-TypedStmt, more_of-TypedStmt, Row_of-TypedClause, end_of-TypedClause, more_of-TypedClause}
use Rattle.typed_tree.specs.declared.stmt.UpdateTarget.{UpdateTarget}
use Rattle.typed_tree.specs.declared.stmt.UpdateTarget.TheVariants as target
use Rattle.typed_tree.specs.declared.unit.Captured.{Captured}
use Rattle.typed_tree.specs.declared.unit.TypedBody.TheVariants.{Block as BlockBody, Expr as ValueBody}
use Rattle.typed_tree.specs.declared.unit.TypedWorker.{TypedWorker}
use denote.Hole.Carrier
use Rattle.typed_tree.specs.SharedTypes.{sem_of}
use Rattle.typed_tree.specs.Units.{UnitBody, OfFunction, OfWorker, OfAnonymous, OfInitialiser}
use Rattle.held_operations.specs.Constructs.{operations_of, operator_operations, perform_operations}
use Rattle.held_operations.specs.Operation.{singleton}
use Rattle.eval_model.specs.Expressions.{error_type, narrowed_to, nil_type}
use Rattle.eval_model.specs.Loops.{raises}
use Rattle.eval_model.specs.Statements.{reads_member, sets_member}
use Rattle.eval_model.specs.Tasks.{Task, Eval, execs, Do as DoTask}
use Rattle.eval_model.specs.TaskWalk.{TasksOver}
use Rattle.eval_model.specs.Trees.{at_end, body_tasks, initialises, starts_named}
use Rattle.eval_model.specs.Walk.{BeginsOver, CapturesOver, ClausesOver, ExprOver, ExprsOver, LeavesOver, OpsOver, PatternOver, PatternsOver, PreparesOver, RowOver, StmtOver, StmtsOver, TriesOver, UpdateOver, loop_of}
use Rattle.eval_model.specs.Ways.{Turns, Ways}
use Rattle.tree_promises.specs.Types.{DoesTypes, GetsTypes, Stack, type_ways}
use Rattle.typed_making.specs.Mapped.{at_or}
use Rattle.typed_making.proofs.Mapping.{below-itself}
use Rattle.map_model.specs.Laws.{WrittenUnitsHaveWays, turned}
use Rattle.map_model.specs.Maps.{above, captured_type, each, next_points, own_type, own_types, tried_type, tries_points}
use Rattle.map_model.specs.Points.{PlainTypes, form_points, member_points, operator_points, operator_type, raise_points, slot_type, tested_points, variable_type}
use Rattle.map_model.specs.Written.{BeginsWritten, BlockWritten, BodyWritten, CapturesWritten, ClausesWritten, EndWritten, ExprWritten, ExprsWritten, GetsWritten, InSome, InitialsWritten, NamedWritten, PatternWritten, PatternsWritten, PreparesWritten, RowWritten, Runs, RunsAlong, StmtWritten, StmtsWritten, StoresWritten, TriesWritten, UpdateWritten, ValueWritten, tries_operations}

module _ (plain : PlainTypes) (env : List AtomDef) (place : Surroundings) where
  abbrev w : Ways Stack
  w = type_ways env place

  abbrev same : (p : Stack) → AreBelow env p p
  same p = below-itself env place p

  -- ---- operations

  along-way : (ops : List Operation) (ss : List Stack) (q : Stack) → RunsAlong plain env place ops ss q → OpsOver w ops (at_or ss q 0) q
  along-way [] [] q h = same q
  along-way [] (s ∷ ss) q h = absurd h
  along-way (op ∷ ops) [] q h = absurd h
  along-way (op ∷ ops) (s ∷ ss) q (d, more) = (at_or ss q 0, d, along-way ops ss q more)

  runs-way : (ops : List Operation) (points : List Stack) (p q : Stack) → Runs plain env place ops points p q → OpsOver w ops p q
  runs-way [] [] p q h = h.0
  runs-way [] (s ∷ ss) p q h = absurd h.1
  runs-way (op ∷ ops) [] p q h = absurd h.1
  runs-way (op ∷ ops) (s ∷ ss) p q (e, (d, more)) = (at_or ss q 0, subst (λ r. DoesTypes env place op r (at_or ss q 0)) (sym e) d, along-way ops ss q more)

  gets-way : (slot : ℕ) (narrowed : Option SemType) (p q : Stack) → GetsWritten plain env place slot narrowed p q → GetsTypes env place slot narrowed p q
  gets-way slot None p q d = d
  gets-way slot (Some t) p q (d, k) = (p ++ slot_type place slot ∷ [], d, k)

  captures-way : (cs : List Captured) (p : Stack) → CapturesWritten plain env place cs p → CapturesOver w cs p (above p (map captured_type cs))
  captures-way [] p h = same p
  captures-way (c ∷ cs) p (g, more) =
      let m : Stack = p ++ captured_type c ∷ [] in
      (m, gets-way c.slot (narrowed_to c.narrowed c.ty) p m g, captures-way cs m more)

  -- ---- expressions

  mutual
    unfolding out-TypedExpr Carrier.out

    pub expr-way : (e : TypedExpr) (p : Stack) → ExprWritten plain env place e p → ExprOver w e p (p ++ own_type e ∷ [])
    expr-way (Implied value type at) p d = d
    expr-way (Variable slot narrowed type at) p g = gets-way slot (narrowed_to narrowed type) p (p ++ sem_of type ∷ []) g
    expr-way (And' s left t right type at) p (a, holds, b, c, d) =
        let q : Stack = p ++ sem_of type ∷ [] in
        (p ++ own_type left ∷ [], expr-way left p a, (p, p ++ own_type right ∷ [], p, q, holds, expr-way right p b, c, holds, (q, d, same q), same q))
    expr-way (Or' s left t right type at) p (a, holds, d, b, c) =
        let q : Stack = p ++ sem_of type ∷ [] in
        (p ++ own_type left ∷ [], expr-way left p a, (p, q, p, p ++ own_type right ∷ [], holds, (q, d, same q), same q, holds, expr-way right p b, c))
    expr-way (Conditional' s condition t middle u last type at) p (a, holds, b, c, d, e) =
        (p ++ own_type condition ∷ [], expr-way condition p a, (p, p ++ own_type middle ∷ [], p, p ++ own_type last ∷ [], holds, expr-way middle p b, c, holds, expr-way last p d, e))
    expr-way (Elvis' own s left t right type at) p (a, (runs, holds), b, c, get) =
        let q : Stack = p ++ sem_of type ∷ [] in
        let m : Stack = p ++ own_type left ∷ [] in (
          m,
          p ++ plain.boolean ∷ [],
          expr-way left p a,
          runs-way (Store own ∷ Load own ∷ Test nil_type ∷ []) (each p (tested_points plain place own (own_type left))) m (p ++ plain.boolean ∷ []) runs,
          (p, p ++ own_type right ∷ [], p, q, holds, expr-way right p b, c, holds, (q, gets-way own (Some (sem_of type)) p q get, same q), same q),
        )
    expr-way (Check' panics own s operand type at) p (a, (runs, holds), error, leaves, get) =
        let q : Stack = p ++ sem_of type ∷ [] in
        let m : Stack = p ++ own_type operand ∷ [] in
        let r : Stack = p ++ error_type ∷ [] in (
          m,
          p ++ plain.boolean ∷ [],
          expr-way operand p a,
          runs-way (Store own ∷ Load own ∷ Test error_type ∷ []) (each p (tested_points plain place own (own_type operand))) m (p ++ plain.boolean ∷ []) runs,
          (p, q, p, q, holds, (r, gets-way own (Some error_type) p r error, (q, leaves, same q)), same q, holds, (q, gets-way own (Some (sem_of type)) p q get, same q), same q),
        )
    expr-way (Trap' s operand type at) p (a, b, c) = (p, p ++ own_type operand ∷ [], record { begins = refl; ends = b; lands = c }, expr-way operand p a)
    expr-way (Function' function s value type at) p (cs, d) = (above p (map captured_type function.value.captured), captures-way function.value.captured p cs, d)
    expr-way (Parens' s inner type at) p (a, e) = subst (λ t. ExprOver w inner p (p ++ t ∷ [])) e (expr-way inner p a)
    expr-way (Strict' form shape operands type at) p (os, r) =
        (above p (own_types (exprs_in _ operands)), row-way operands p os, runs-way (operations_of form (length (exprs_in _ operands))) (each p (form_points plain form (own_types (exprs_in _ operands)))) (above p (own_types (exprs_in _ operands))) (p ++ sem_of type ∷ []) r)

    row-way : {n : _} (row : Row_of-TypedExpr n) (p : Stack) → RowWritten plain env place row p → RowOver w row p (above p (own_types (exprs_in _ row)))
    row-way end_of-TypedExpr p h = same p
    row-way (more_of-TypedExpr e rest) p (a, more) = (p ++ own_type e ∷ [], expr-way e p a, row-way rest (p ++ own_type e ∷ []) more)

  exprs-way : (es : List TypedExpr) (p : Stack) → ExprsWritten plain env place es p → ExprsOver w es p (above p (own_types es))
  exprs-way [] p h = same p
  exprs-way (e ∷ es) p (a, more) = (p ++ own_type e ∷ [], expr-way e p a, exprs-way es (p ++ own_type e ∷ []) more)

  -- ---- assignments with an operator

  operator-way : (t : SemType) (op : Operator) (value : TypedExpr) (store : Operation) (p q : Stack) → StoresWritten plain env place t op value store p q → OpsOver w (operator_operations op) (above p (t ∷ own_type value ∷ [])) (p ++ operator_type plain op ∷ [])
  operator-way t op value store p q (a, r, d) = runs-way (operator_operations op) (each p (operator_points plain op (t ∷ own_type value ∷ []))) (above p (t ∷ own_type value ∷ [])) (p ++ operator_type plain op ∷ []) r

  update-way : (t : UpdateTarget) (op : Operator) (value : TypedExpr) (p : Stack) → UpdateWritten plain env place t op value p → UpdateOver w t op value p p
  update-way (target.Local slot narrowed type) op value p (get, h) =
      let t : SemType = sem_of type in
      (p ++ t ∷ [], above p (t ∷ own_type value ∷ []), p ++ operator_type plain op ∷ [], gets-way slot (narrowed_to narrowed type) p (p ++ t ∷ []) get, expr-way value (p ++ t ∷ []) h.0, operator-way t op value (Store slot) p p h, h.2)
  update-way (target.Variable x) op value p (load, h) =
      let t : SemType = variable_type place x in
      (p ++ t ∷ [], above p (t ∷ own_type value ∷ []), p ++ operator_type plain op ∷ [], load, expr-way value (p ++ t ∷ []) h.0, operator-way t op value (StoreModule x) p p h, h.2)
  update-way (target.Member own how container key type) op value p (a, s, b, d, reads, h) =
      let t : SemType = sem_of type in
      let kept : Stack = above p (slot_type place own ∷ slot_type place (own + 1) ∷ []) in (
        p ++ own_type container.value ∷ [],
        p,
        p ++ own_type key.value ∷ [],
        p,
        kept ++ t ∷ [],
        above kept (t ∷ own_type value ∷ []),
        kept ++ operator_type plain op ∷ [],
        expr-way container.value p a,
        s,
        expr-way key.value p b,
        d,
        runs-way (Load own ∷ Load (own + 1) ∷ reads_member how own) (each p (member_points plain place how own)) p (kept ++ t ∷ []) reads,
        expr-way value (kept ++ t ∷ []) h.0,
        operator-way t op value (sets_member how) kept p h,
        h.2,
      )

  -- ---- loops

  begins-way : (source : Source) (p : Stack) → BeginsWritten plain env place source p → BeginsOver w source p p
  begins-way (Range own Included from to) p (a, s, b, d, r) = (p ++ own_type from.value ∷ [], p, p ++ own_type to.value ∷ [], p, expr-way from.value p a, s, expr-way to.value p b, d, runs-way (Load own ∷ Load (own + 1) ∷ LessEqual ∷ Store (own + 2) ∷ []) (each p ([] ∷ (slot_type place own ∷ []) ∷ (slot_type place own ∷ slot_type place (own + 1) ∷ []) ∷ (plain.boolean ∷ []) ∷ [])) p p r)
  begins-way (Range own Excluded from to) p (a, s, b, d) = (p ++ own_type from.value ∷ [], p, p ++ own_type to.value ∷ [], expr-way from.value p a, s, expr-way to.value p b, d)
  begins-way (ListSource own list) p (a, r) = (p ++ own_type list.value ∷ [], expr-way list.value p a, runs-way (Store own ∷ Const (constant.Int (negsuc 0)) ∷ Store (own + 1) ∷ []) (each p ((own_type list.value ∷ []) ∷ [] ∷ (plain.int ∷ []) ∷ [])) (p ++ own_type list.value ∷ []) p r)

  tries-way : (slot : ℕ) (source : Source) (p : Stack) → TriesWritten plain env place source p → TriesOver w (loop_of w slot source) p (p ++ tried_type plain place source ∷ [])
  tries-way slot (Range own Included from to) p (r, holds) = runs-way (tries_operations plain env place (Range own Included from to)) (each p (tries_points plain place (Range own Included from to))) p (p ++ tried_type plain place (Range own Included from to) ∷ []) r
  tries-way slot (Range own Excluded from to) p (r, holds) = runs-way (tries_operations plain env place (Range own Excluded from to)) (each p (tries_points plain place (Range own Excluded from to))) p (p ++ tried_type plain place (Range own Excluded from to) ∷ []) r
  tries-way slot (ListSource own list) p (r, holds) = runs-way (tries_operations plain env place (ListSource own list)) (each p (tries_points plain place (ListSource own list))) p (p ++ tried_type plain place (ListSource own list) ∷ []) r

  prepares-way : (slot : ℕ) (source : Source) (p : Stack) → PreparesWritten plain env place slot source p → PreparesOver w (loop_of w slot source) p p
  prepares-way slot (Range own Included from to) p (r, holds, raised) = (p ++ slot_type place (own + 2) ∷ [], runs-way (Load own ∷ Store slot ∷ Load own ∷ Load (own + 1) ∷ Less ∷ Store (own + 2) ∷ Load (own + 2) ∷ []) (each p (next_points plain place own slot)) p (p ++ slot_type place (own + 2) ∷ []) r, (p, p, p, p, holds, runs-way (raises own) (each p (raise_points plain place own)) p p raised, same p, holds, same p, same p))
  prepares-way slot (Range own Excluded from to) p r = runs-way (Load own ∷ Store slot ∷ raises own) (each p ([] ∷ (slot_type place own ∷ []) ∷ raise_points plain place own)) p p r
  prepares-way slot (ListSource own list) p r = runs-way (Load own ∷ Load (own + 1) ∷ GetItem ∷ Store slot ∷ []) (each p ([] ∷ (slot_type place own ∷ []) ∷ (slot_type place own ∷ slot_type place (own + 1) ∷ []) ∷ (slot_type place slot ∷ []) ∷ [])) p p r

  -- ---- statements, from these operands to these

  leaves-way : (looped : Bool) (point : Turns Stack → Stack) (p : Stack) → ((l : Turns Stack) → l ≡ record { head = p; exit = p } → point l ≡ p) → InSome plain env place looped → LeavesOver w (turned looped p) point p
  leaves-way true point p is h = subst (λ q. AreBelow env p q) (sym (is (record { head = p; exit = p }) refl)) (same p)
  leaves-way false point p is h = absurd h

  pattern-way : (own : ℕ) (value : Option Constant) (Next : Stack → Type 0) (p : Stack) → PatternWritten plain env place own value p → Next p → PatternOver w own value Next p p
  pattern-way own (Some c) Next p (r, holds) more =
      (p ++ plain.boolean ∷ [], p, p, runs-way (Load own ∷ Test (singleton c) ∷ []) (p ∷ (p ++ slot_type place own ∷ []) ∷ []) p (p ++ plain.boolean ∷ []) r, holds, same p, holds, more)
  pattern-way own None Next p h more = same p

  patterns-way : (own : ℕ) (ts : List TypedPattern) (p : Stack) → PatternsWritten plain env place own ts p → PatternsOver w own ts p p p
  patterns-way own [] p h = same p
  patterns-way own (t ∷ ts) p (a, more) = pattern-way own t.value (λ n. PatternsOver w own ts p n p) p a (patterns-way own ts p more)

  mutual
    stmt-way : (s : TypedStmt) (looped : Bool) (p : Stack) → StmtWritten plain env place s looped p → StmtOver w s (turned looped p) p p
    stmt-way (Set slot value at) looped p (a, d) = (p ++ own_type value.value ∷ [], expr-way value.value p a, d)
    stmt-way (Perform form operands at) looped p (a, r) = (above p (own_types operands.items), exprs-way operands.items p a, runs-way (perform_operations form) (above p (own_types operands.items) ∷ []) (above p (own_types operands.items)) p r)
    stmt-way (Update t op value at) looped p h = update-way t op value.value p h
    stmt-way (If' condition shape first shape' second at) looped p (a, holds, b, c) =
        (p ++ own_type condition.value ∷ [], expr-way condition.value p a, (p, p, p, p, holds, stmts-way first looped p b, same p, holds, stmts-way second looped p c, same p))
    stmt-way (While' condition shape body at) looped p (tick, a, holds, b) =
        (record { head = p; exit = p }, same p, (p, p ++ own_type condition.value ∷ [], p, p, p, p, tick, expr-way condition.value p a, holds, holds, same p, same p, stmts-way body true p b, same p), same p)
    stmt-way (Foreach' slot source shape body at) looped p (begins, tick, (tries, holds), prepares, b) =
        (p, record { head = p; exit = p }, begins-way source p begins, same p, (p, p ++ tried_type plain place source ∷ [], p, p, p, p, tick, tries-way slot source p (tries, holds), holds, holds, same p, prepares-way slot source p prepares, stmts-way body true p b, same p), same p)
    stmt-way (Match' own subject shape clauses at) looped p (a, store, cs) = (p ++ own_type subject.value ∷ [], p, expr-way subject.value p a, store, clauses-way own clauses looped p cs)
    stmt-way (Return None at) looped p (a, d) = (p ++ nil_type ∷ [], a, (p, d, same p))
    stmt-way (Return (Some e) at) looped p (a, d) = (p ++ own_type e.value ∷ [], expr-way e.value p a, d)
    stmt-way (BlockStmt shape stmts at) looped p h = stmts-way stmts looped p h
    stmt-way (Break at) looped p h = (leaves-way looped (λ l. l.exit) p (λ l e. ap (λ (x : Turns Stack). x.exit) e) h, same p)
    stmt-way (Continue at) looped p h = (leaves-way looped (λ l. l.head) p (λ l e. ap (λ (x : Turns Stack). x.head) e) h, same p)

    stmts-way : {n : _} (row : Row_of-TypedStmt n) (looped : Bool) (p : Stack) → StmtsWritten plain env place row looped p → StmtsOver w row (turned looped p) p p
    stmts-way end_of-TypedStmt looped p h = same p
    stmts-way (more_of-TypedStmt s rest) looped p (a, more) = (p, stmt-way s looped p a, stmts-way rest looped p more)

    clauses-way : {n : _} (own : ℕ) (row : Row_of-TypedClause n) (looped : Bool) (p : Stack) → ClausesWritten plain env place own row looped p → ClausesOver w own row (turned looped p) p p
    clauses-way own end_of-TypedClause looped p h = same p
    clauses-way own (more_of-TypedClause patterns shape stmts at rest) looped p (ps, block, more) = (p, p, p, patterns-way own patterns.items p ps, stmts-way stmts looped p block, same p, clauses-way own rest looped p more)

  -- ---- units, with no operands

  abbrev Over : List Task → Type 0
  Over ts = TasksOver w ts [] None

  block-way : (ss : List TypedStmt) (ts : List Task) → BlockWritten plain env place ss [] → Over ts → Over (execs ss ts)
  block-way [] ts h more = more
  block-way (s ∷ ss) ts (a, b) more = ([], [], tt, stmt-way s false [] a, block-way ss ts b more)

  named-way : (ws : List TypedWorker) (ts : List Task) → NamedWritten plain env place ws → Over ts → Over (starts_named ws ts)
  named-way [] ts h more = more
  named-way (v ∷ ws) ts d more = ([], [], tt, d, more)

  end-way : (reached : Bool) → EndWritten plain env place reached → Over (at_end reached)
  end-way true (a, d) = ([], nil_type ∷ [], tt, a, (nil_type ∷ [], [], same (nil_type ∷ []), d, (refl, refl)))
  end-way false h = (refl, refl)

  initials-way : (is : List Initial) (ts : List Task) → InitialsWritten plain env place is → Over ts → Over (initialises is ts)
  initials-way [] ts h more = more
  initials-way (i ∷ is) ts (a, d, b) more =
      let m : Stack = own_type i.value.value ∷ [] in
      ([], m, tt, expr-way i.value.value [] a, (m, [], same m, d, initials-way is ts b more))

  value-way : (e : TypedExpr) → ValueWritten plain env place e → Over (Eval e ∷ DoTask ReturnOp ∷ [])
  value-way e (a, d) = ([], own_type e ∷ [], tt, expr-way e [] a, (own_type e ∷ [], [], same (own_type e ∷ []), d, (refl, refl)))

  body-way : (body : UnitBody) → BodyWritten plain env place body → Over (body_tasks body)
  body-way (OfFunction (BlockBody initial workers rest ends close)) (a, b, c, d) =
      block-way initial.items (starts_named workers.items (execs rest.items (at_end ends))) a
      (named-way workers.items (execs rest.items (at_end ends)) b (block-way rest.items (at_end ends) c (end-way ends d)))
  body-way (OfFunction (ValueBody value)) h = value-way value.value h
  body-way (OfWorker stmts ends) (a, d) = block-way stmts (at_end ends) a (end-way ends d)
  body-way (OfAnonymous value) h = value-way value h
  body-way (OfInitialiser values) (a, d) = initials-way values (at_end true) a (end-way true d)

pub written-units-have-ways : WrittenUnitsHaveWays
written-units-have-ways plain env place body h = body-way plain env place body h
