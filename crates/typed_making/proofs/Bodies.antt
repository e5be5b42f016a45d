-- What is added for a well-typed unit has a map that begins with no operands.
use Rattle.std.proofs.Common.{◌++◌, List, [], ◌∷◌, None, refl, sym, subst, arith, true, false}
use Rattle.std.specs.Prelude.{Bool}
use Rattle.type_model.specs.declared.atoms.AtomDef.{AtomDef}
use Rattle.operations.specs.declared.operation.Constant.TheVariants as constant
use Rattle.operations.specs.declared.operation.Operation.TheVariants.{Const, Return as ReturnOp, StoreModule, Tick, Workers}
use Rattle.operations.specs.Rows.{AreBelow, Surroundings}
use Rattle.typed_tree.specs.declared.expr.TypedExpr.{TypedExpr}
use Rattle.typed_tree.specs.declared.package.Initial.{Initial}
use Rattle.typed_tree.specs.declared.stmt.TypedStmt.{TypedStmt}
use Rattle.typed_tree.specs.declared.unit.TypedBody.TheVariants.{Block as BlockBody, Expr as ValueBody}
use Rattle.typed_tree.specs.declared.unit.TypedWorker.{TypedWorker}
use Rattle.typed_tree.specs.Units.{UnitBody, OfFunction, OfWorker, OfAnonymous, OfInitialiser}
use Rattle.eval_model.specs.Tasks.{Task, Eval, execs, Do as DoTask}
use Rattle.eval_model.specs.TaskWalk.{TasksOver}
use Rattle.eval_model.specs.Trees.{at_end, body_tasks, initialises, starts_named}
use Rattle.eval_model.specs.Ways.{Ways}
use Rattle.stack_code.specs.Commands.{Do, GoTo}
use Rattle.tree_promises.specs.Types.{DoesTypes, Stack, type_ways}
use Rattle.lower_model.specs.Making.{Making, block_made, body_made, does, end_made, expr_made, initials_made, named_made, next_label, stmt_made, unit_made}
use Rattle.typed_making.specs.Laws.{UnitsAreTyped}
use Rattle.typed_making.specs.Mapped.{Leads}
use Rattle.typed_making.specs.Wildcards.{BodyMatchesPlainly, ListMatchesPlainly}
use Rattle.typed_making.proofs.Expressions.{expr-leads}
use Rattle.typed_making.proofs.Mapping.{comes, then-add, then-bind, then-fresh, wanted}
use Rattle.typed_making.proofs.Parting.{come-lead, does-lead, then-lead}
use Rattle.typed_making.proofs.Statements.{stmt-leads}

module _ (env : List AtomDef) (place : Surroundings) where
  abbrev w : Ways Stack
  w = type_ways env place

  abbrev Lead : (Making → Making) → Stack → Stack → Type 0
  Lead F p q = Leads env place None None F p q

  -- it leads to some types
  abbrev LeadsOn : (Making → Making) → Stack → Type 0
  LeadsOn F p = (q : Stack) × Lead F p q

  abbrev Over : List Task → Stack → Type 0
  Over ts p = TasksOver w ts p None

  -- what leads on where these tasks may be done
  abbrev Does : (Making → Making) → List Task → Type 0
  Does F ts = (p : Stack) → Over ts p → LeadsOn F p

  on-then : (F G : Making → Making) (p q : Stack) → Lead F p q → LeadsOn G q → LeadsOn (λ m. G (F m)) p
  on-then F G p q f (r, g) = (r, then-lead env place None None F G p q r f g)

  -- from types below
  from : (F : Making → Making) (p m q : Stack) → AreBelow env p m → Lead F m q → Lead F p q
  from F p m q c f = then-lead env place None None (λ x. x) F p m q (come-lead env place None None p m c) f

  execs-lead : (ss : List TypedStmt) (F : Making → Making) (ts : List Task) → ListMatchesPlainly ss → Does F ts → Does (λ m. F (block_made ss m)) (execs ss ts)
  execs-lead [] F ts plain f p h = f p h
  execs-lead (s ∷ ss) F ts plain f p (m, q, c, x, more) =
      on-then (stmt_made s None) (λ m. F (block_made ss m)) p q (from (stmt_made s None) p m q c (stmt-leads env place s None None m q x plain.0)) (execs-lead ss F ts plain.1 f q more)

  named-lead : (ws : List TypedWorker) (F : Making → Making) (ts : List Task) → Does F ts → Does (λ m. F (named_made ws m)) (starts_named ws ts)
  named-lead [] F ts f p h = f p h
  named-lead (v ∷ ws) F ts f p (m, q, c, x, more) = on-then (does Workers) F p q (from (does Workers) p m q c (does-lead env place None None Workers m q x)) (f q more)

  initials-lead : (is : List Initial) (F : Making → Making) (ts : List Task) → Does F ts → Does (λ m. F (initials_made is m)) (initialises is ts)
  initials-lead [] F ts f p h = f p h
  initials-lead (i ∷ is) F ts f p (m, q, c, x, (n, r, d, o, more)) =
      on-then (expr_made i.value.value) (λ m. F (initials_made is (does (StoreModule i.variable) m))) p q (from (expr_made i.value.value) p m q c (expr-leads env place None None i.value.value m q x))
      (on-then (does (StoreModule i.variable)) (λ m. F (initials_made is m)) q r (from (does (StoreModule i.variable)) q n r d (does-lead env place None None (StoreModule i.variable) n r o)) (initials-lead is F ts f r more))

  -- ---- ends

  ticks : DoesTypes env place Tick [] []
  ticks = record { below = []; operands = []; result = None; are = refl; row = (refl, refl); behind = λ go. tt }

  -- where the end isn't reached it goes round with no operands
  round-lead : Lead (end_made false) [] []
  round-lead base old many inside =
      let s0 = comes env place base old [] [] many tt in
      let v = wanted env place s0 [] in
      let s1 = then-fresh env place s0 [] in
      let s2 = then-bind env place s1 (next_label base) [] (omega arith) v tt in
      let s3 = then-add env place s2 (Do Tick) [] ticks in
      (old ++ [] ∷ [], then-add env place s3 (GoTo (next_label base)) [] ([], v, tt))

  end-lead : (reached : Bool) → Does (end_made reached) (at_end reached)
  end-lead true p (m, q, c, nil, (n, r, d, leaves, none)) =
      (r, then-lead env place None None (does (Const constant.Nil)) (does ReturnOp) p q r (from (does (Const constant.Nil)) p m q c (does-lead env place None None (Const constant.Nil) m q nil)) (from (does ReturnOp) q n r d (does-lead env place None None ReturnOp n r leaves)))
  end-lead false p (none, empty) = ([], subst (λ x. Lead (end_made false) x []) (sym empty) round-lead)

  value-lead : (e : TypedExpr) → Does (λ m. does ReturnOp (expr_made e m)) (Eval e ∷ DoTask ReturnOp ∷ [])
  value-lead e p (m, q, c, x, (n, r, d, leaves, none)) =
      (r, then-lead env place None None (expr_made e) (does ReturnOp) p q r (from (expr_made e) p m q c (expr-leads env place None None e m q x)) (from (does ReturnOp) q n r d (does-lead env place None None ReturnOp n r leaves)))

  -- ---- bodies

  body-lead : (body : UnitBody) → BodyMatchesPlainly body → Does (body_made body) (body_tasks body)
  body-lead (OfFunction (BlockBody initial workers rest ends close)) plain =
      execs-lead initial.items (λ m. end_made ends (block_made rest.items (named_made workers.items m))) (starts_named workers.items (execs rest.items (at_end ends))) plain.0
      (named-lead workers.items (λ m. end_made ends (block_made rest.items m)) (execs rest.items (at_end ends)) (execs-lead rest.items (end_made ends) (at_end ends) plain.1 (end-lead ends)))
  body-lead (OfFunction (ValueBody value)) plain = value-lead value.value
  body-lead (OfWorker stmts ends) plain = execs-lead stmts (end_made ends) (at_end ends) plain (end-lead ends)
  body-lead (OfAnonymous value) plain = value-lead value
  body-lead (OfInitialiser values) plain = initials-lead values (end_made true) (at_end true) (end-lead true)

  unit-lead : (body : UnitBody) → BodyMatchesPlainly body → Over (body_tasks body) [] → LeadsOn (unit_made body) []
  unit-lead body plain h = on-then (does Tick) (body_made body) [] [] (does-lead env place None None Tick [] [] ticks) (body-lead body plain [] h)

pub units-are-typed : UnitsAreTyped
units-are-typed env place known u typed plain = unit-lead env place u.body plain typed.types
