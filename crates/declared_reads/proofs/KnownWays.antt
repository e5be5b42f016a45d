-- There is a way of knowing through each tree whose variables are read as declared, where there is any way that leaves loops that
-- are there.
use Rattle.std.proofs.Common.{◌≡◌, ◌++◌, ◌+◌, ◌∙◌, ℕ, Bool, true, false, List, [], ◌∷◌, Option, Some, None, IsSomeAnd, length, refl, sym, subst, ap, inl, inr}
use Rattle.std.specs.Prelude.{IsFalse, negsuc, option_map}
use Rattle.std.specs.List.{AllZip}
use Rattle.std.specs.Global.{Box, Global}
use Rattle.std.specs.declared.vec.Vec.{Vec}
use denote.Hole.Carrier
use Rattle.bal_base.specs.declared.place.Place.{Place}
use Rattle.operations.specs.declared.library.LibraryCall.TheVariants.{ListLength}
use Rattle.operations.specs.declared.operation.Constant.{Constant}
use Rattle.operations.specs.declared.operation.Constant.TheVariants as constant
use Rattle.operations.specs.declared.operation.Operation.{Operation}
use Rattle.operations.specs.declared.operation.Operation.TheVariants.{Const, Load, Store, Less, LessEqual, GetItem, Library, Test, Return as ReturnOp}
use Rattle.typed_tree.specs.declared.expr.TypedExpr.{TypedExpr, Strict', Implied, Local as Variable, And', Or', Conditional', Elvis', Check', Trap', Function', Parens', items_hidden-the_row-TypedExpr-0 as exprs-hidden, Row_of-TypedExpr, end_of-TypedExpr, more_of-TypedExpr, items-the_row-TypedExpr as exprs_in}
use Rattle.typed_tree.specs.declared.form.Operator.{Operator}
use Rattle.typed_tree.specs.declared.package.Initial.{Initial}
use Rattle.typed_tree.specs.declared.stmt.RangeEnd.TheVariants.{Included, Excluded}
use Rattle.typed_tree.specs.declared.stmt.Source.{Source}
use Rattle.typed_tree.specs.declared.stmt.Source.TheVariants.{Range, List as ListSource}
use Rattle.typed_tree.specs.declared.stmt.TypedClause.{TypedClause, out-TypedClause}
use Rattle.typed_tree.specs.declared.stmt.TypedPattern.{TypedPattern}
use Rattle.typed_tree.specs.declared.stmt.TypedStmt.{TypedStmt, out-TypedStmt, Set, Perform, Update, If, If', While, While', Foreach, Foreach', Match, Match', Return, Block as BlockOf, Block' as BlockStmt, items_hidden-the_row-TypedStmt-0 as stmts-hidden, items_hidden-the_row-TypedClause-1 as clauses-hidden, items-the_row-TypedClause as clauses_in, Break, Continue, Row_of-TypedStmt, end_of-TypedStmt, more_of-TypedStmt, items-the_row-TypedStmt as stmts_in, items_shown-the_row-TypedStmt-0 as stmts-shown, Row_of-TypedClause, end_of-TypedClause, more_of-TypedClause}
use Rattle.typed_tree.specs.declared.stmt.TypedStmt.TheOpen as layer
use Rattle.typed_tree.specs.declared.stmt.UpdateTarget.{UpdateTarget}
use Rattle.typed_tree.specs.declared.stmt.UpdateTarget.TheVariants as target
use Rattle.typed_tree.specs.declared.unit.Captured.{Captured}
use Rattle.typed_tree.specs.declared.unit.TypedBody.TheVariants.{Block as BlockBody, Expr as ValueBody}
use Rattle.typed_tree.specs.declared.unit.TypedWorker.{TypedWorker}
use Rattle.typed_tree.specs.SharedTypes.{Shared}
use Rattle.typed_tree.specs.Units.{UnitBody}
use Rattle.held_operations.specs.Constructs.{operations_of, operator_operations, perform_operations}
use Rattle.held_operations.specs.Operation.{singleton}
use Rattle.eval_model.specs.Expressions.{check_ends, error_type, narrowed_to, nil_type}
use Rattle.eval_model.specs.Loops.{raises}
use Rattle.eval_model.specs.Statements.{reads_member}
use Rattle.eval_model.specs.Tasks.{Loop, AsLongAs, Task, execs}
use Rattle.eval_model.specs.TaskWalk.{TasksOver}
use Rattle.eval_model.specs.Trees.{at_end, body_tasks, initialises, starts_named}
use Rattle.eval_model.specs.Walk.{BlockOver, CapturesOver, OpsOver, ExprOver, RowOver, ExprsOver, UpdateOver, TriesOver, PreparesOver, LoopOver, loop_of, BeginsOver, PatternOver, PatternsOver, StmtOver, StmtsOver, ClausesOver}
use Rattle.typed_tree.specs.declared.expr.TypedExpr.TheBlock.{hidden-the_row-TypedExpr-0}
use Rattle.typed_tree.specs.declared.stmt.TypedStmt.TheBlock.{hidden-the_row-TypedClause-1, hidden-the_row-TypedStmt-0}
use Rattle.eval_model.specs.Ways.{Turns, Ways}
use Rattle.declared_reads.specs.Declared.{AreBare, AreBareClauses, AreBareStmts, AreDeclared, IsBare, IsBareCapture, IsBareSource, IsBareStmt, IsBareTarget, IsDeclaredInitial, IsDeclaredWorker, IsEnd}
use Rattle.declared_reads.proofs.Knowing.{GetsAt, Held, HasNil, Known, Loaded, Nothing, Nowhere, Shown, Tested, after, knowing}
use Rattle.declared_reads.proofs.Machines.{execs-append}
use Rattle.declared_reads.proofs.Units.{IsBody, of_anonymous, of_function, of_initialiser, of_worker}

abbrev W : Ways Known
W = knowing

abbrev N : Known
N = Nothing

abbrev still : Turns Known
still = record { head = N; exit = N }

ops : (os : List Operation) (p : Known) → OpsOver W os p N
ops [] p = inr (inl refl)
ops (o ∷ os) p = (after o p, inl refl, ops os (after o p))

captured : (cs ds : List Captured) → AllZip IsBareCapture cs ds → CapturesOver W ds N N
captured [] [] z = inl refl
captured [] (d ∷ ds) z = absurd z
captured (c ∷ cs) [] z = absurd z
captured (c ∷ cs) (d ∷ ds) z = (N, (subst (λ b. GetsAt d.slot (narrowed_to b d.ty) N) (sym (not-true d.narrowed z.0.1)) tt, refl), captured cs ds z.1)
  where
    not-true : (b : Bool) → IsFalse b → b ≡ false
    not-true b e = e

-- ---- lists as rows, and rows as lists

module _ {P : Type 0} (w : Ways P) where
  exprs-row : {n : _} (row : Row_of-TypedExpr n) (p q : P) → ExprsOver w (exprs_in _ row) p q → RowOver w row p q
  exprs-row end_of-TypedExpr p q e = e
  exprs-row (more_of-TypedExpr e rest) p q (m, at, more) = (m, at, exprs-row rest m q more)

  block-row : {n : _} (row : Row_of-TypedStmt n) (loop : Option (Turns P)) (p q : P) → BlockOver w (stmts_in _ row) loop p q → StmtsOver w row loop p q
  block-row end_of-TypedStmt loop p q e = e
  block-row (more_of-TypedStmt s rest) loop p q (m, at, more) = (m, at, block-row rest loop m q more)

  row-block : {n : _} (row : Row_of-TypedStmt n) (loop : Option (Turns P)) (p q : P) → StmtsOver w row loop p q → BlockOver w (stmts_in _ row) loop p q
  row-block end_of-TypedStmt loop p q e = e
  row-block (more_of-TypedStmt s rest) loop p q (m, at, more) = (m, at, row-block rest loop m q more)

  -- of a vector
  hides : (v : Vec TypedStmt Global) (loop : Option (Turns P)) (p q : P) → BlockOver w v.items loop p q → StmtsOver w (hidden-the_row-TypedStmt-0 v) loop p q
  hides v loop p q h = block-row (hidden-the_row-TypedStmt-0 v) loop p q (subst (λ ss. BlockOver w ss loop p q) (sym (stmts-hidden v)) h)

  shows : (v : Vec TypedStmt Global) (loop : Option (Turns P)) (p q : P) → StmtsOver w (hidden-the_row-TypedStmt-0 v) loop p q → BlockOver w v.items loop p q
  shows v loop p q h = subst (λ ss. BlockOver w ss loop p q) (stmts-hidden v) (row-block (hidden-the_row-TypedStmt-0 v) loop p q h)

  abbrev ClausesIn : ℕ → List TypedClause → Option (Turns P) → P → P → Type 0
  ClausesIn own [] loop p q = w.comes p q
  ClausesIn own (c ∷ cs) loop p q =
      (n b m : P) × PatternsOver w own (out-TypedClause c).patterns.items b p n × BlockOver w (out-TypedClause c).stmts.items loop b m × w.comes m q × ClausesIn own cs loop n q

  clauses-row : {n : _} (row : Row_of-TypedClause n) (loop : Option (Turns P)) (own : ℕ) (p q : P) → ClausesIn own (clauses_in _ row) loop p q → ClausesOver w own row loop p q
  clauses-row end_of-TypedClause loop own p q c = c
  clauses-row (more_of-TypedClause patterns shape stmts at rest) loop own p q (n, b, m, ps, block, out, next) =
      (n, b, m, ps, block-row stmts loop b m (subst (λ ss. BlockOver w ss loop b m) (stmts-shown shape stmts) block), out, clauses-row rest loop own n q next)

  row-clauses : {n : _} (row : Row_of-TypedClause n) (loop : Option (Turns P)) (own : ℕ) (p q : P) → ClausesOver w own row loop p q → ClausesIn own (clauses_in _ row) loop p q
  row-clauses end_of-TypedClause loop own p q c = c
  row-clauses (more_of-TypedClause patterns shape stmts at rest) loop own p q (n, b, m, ps, block, out, next) =
      (n, b, m, ps, subst (λ ss. BlockOver w ss loop b m) (sym (stmts-shown shape stmts)) (row-block stmts loop b m block), out, row-clauses rest loop own n q next)

-- ---- expressions

mutual
  pub expr : (e f : TypedExpr) → IsBare e f → ExprOver W f N N
  expr (Strict' form shape operands type at) g (fs, are, is) =
      subst (λ z. ExprOver W z N N) (sym is)
      (N, exprs-row W (hidden-the_row-TypedExpr-0 fs) N N (subst (λ es. ExprsOver W es N N) (sym (exprs-hidden fs)) (row operands fs.items are)), ops (operations_of form (length (exprs_in _ (hidden-the_row-TypedExpr-0 fs)))) N)
  expr (Implied value type at) g is = subst (λ z. ExprOver W z N N) (sym is) (inr refl)
  expr (Variable slot narrowed type at) g is = subst (λ z. ExprOver W z N N) (sym is) (tt, refl)
  expr (And' _ left _ right type at) g (l, r, x, y, is) =
      subst (λ z. ExprOver W z N N) (sym is) (N, expr left l.value x, (N, N, N, N, inr refl, expr right r.value y, inl refl, inr refl, ops (Const (constant.Bool false) ∷ []) N, inl refl))
  expr (Or' _ left _ right type at) g (l, r, x, y, is) =
      subst (λ z. ExprOver W z N N) (sym is) (N, expr left l.value x, (N, N, N, N, inr refl, ops (Const (constant.Bool true) ∷ []) N, inl refl, inr refl, expr right r.value y, inl refl))
  expr (Conditional' _ condition _ middle _ last type at) g (k, m, l, x, y, z, is) =
      subst (λ z. ExprOver W z N N) (sym is) (N, expr condition k.value x, (N, N, N, N, inr refl, expr middle m.value y, inl refl, inr refl, expr last l.value z, inl refl))
  expr (Elvis' own _ left _ right type at) g (l, r, t, x, y, anything, is) =
      subst (λ z. ExprOver W z N N) (sym is) (
        N,
        Tested own nil_type,
        expr left l.value x,
        (N, inr refl, (Loaded own, inl refl, (Tested own nil_type, inl refl, inl refl))),
        (N, N, Held own, N, inr refl, expr right r.value y, inl refl, inl refl, (N, (inr (refl, anything), refl), inl refl), inl refl),
      )
  expr (Check' panics own _ operand type at) g (o, t, x, anything, is) =
      subst (λ z. ExprOver W z N N) (sym is) (
        N,
        Tested own error_type,
        expr operand o.value x,
        (N, inr refl, (Loaded own, inl refl, (Tested own error_type, inl refl, inl refl))),
        (Shown own error_type, N, Held own, N, inl refl, (N, (inl refl, refl), ops (check_ends panics ∷ []) N), inl refl, inl refl, (N, (inr (refl, anything), refl), inl refl), inl refl),
      )
  expr (Trap' _ operand type at) g (o, x, is) = subst (λ z. ExprOver W z N N) (sym is) (N, N, (refl, refl), expr operand o.value x)
  expr (Function' function _ value type at) g (h, v, same, x, is) = subst (λ z. ExprOver W z N N) (sym is) (N, captured function.value.captured h.value.captured same.captured, inr refl)
  expr (Parens' _ inner type at) g (i, x, is) = subst (λ z. ExprOver W z N N) (sym is) (expr inner i.value x)

  row : {n : _} (es : Row_of-TypedExpr n) (fs : List TypedExpr) → AreBare es fs → ExprsOver W fs N N
  row end_of-TypedExpr fs is = subst (λ z. ExprsOver W z N N) (sym is) (inl refl)
  row (more_of-TypedExpr e rest) fs (f, gs, x, are, is) = subst (λ z. ExprsOver W z N N) (sym is) (N, expr e f x, row rest gs are)

exprs : (es fs : List TypedExpr) → AllZip IsBare es fs → ExprsOver W fs N N
exprs [] [] z = inl refl
exprs [] (f ∷ fs) z = absurd z
exprs (e ∷ es) [] z = absurd z
exprs (e ∷ es) (f ∷ fs) z = (N, expr e f z.0, exprs es fs z.1)

update : (t u : UpdateTarget) (op : Operator) (value v : TypedExpr) → IsBareTarget t u → IsBare value v → UpdateOver W u op v N N
update (target.Local slot narrowed type) u op value v is x = subst (λ z. UpdateOver W z op v N N) (sym is) (N, N, N, (tt, refl), expr value v x, ops (operator_operations op) N, inr refl)
update (target.Variable m) u op value v is x = subst (λ z. UpdateOver W z op v N N) (sym is) (N, N, N, inr refl, expr value v x, ops (operator_operations op) N, inr refl)
update (target.Member own how container key type) u op value v (c, k, y, z, is) x =
    subst (λ z. UpdateOver W z op v N N) (sym is)
    (N, N, N, N, N, N, N, expr container.value c.value y, inr refl, expr key.value k.value z, inr refl, ops (Load own ∷ Load (own + 1) ∷ reads_member how own) N, expr value v x, ops (operator_operations op) N, inr refl)

begins : (s r : Source) → IsBareSource s r → BeginsOver W r N N
begins (Range own Included from to) r (f, t, x, y, is) =
    subst (λ z. BeginsOver W z N N) (sym is) (N, N, N, N, expr from.value f.value x, inr refl, expr to.value t.value y, inr refl, ops (Load own ∷ Load (own + 1) ∷ LessEqual ∷ Store (own + 2) ∷ []) N)
begins (Range own Excluded from to) r (f, t, x, y, is) = subst (λ z. BeginsOver W z N N) (sym is) (N, N, N, expr from.value f.value x, inr refl, expr to.value t.value y, inr refl)
begins (ListSource own list) r (l, x, is) =
    subst (λ z. BeginsOver W z N N) (sym is) (N, expr list.value l.value x, ops (Store own ∷ Const (constant.Int (negsuc 0)) ∷ Store (own + 1) ∷ []) N)

tries-source : (slot : ℕ) (s : Source) → TriesOver W (loop_of W slot s) N N
tries-source slot (Range own Included from to) = ops (Load (own + 2) ∷ []) N
tries-source slot (Range own Excluded from to) = ops (Load own ∷ Load (own + 1) ∷ Less ∷ []) N
tries-source slot (ListSource own list) = ops (raises (own + 1) ++ Load (own + 1) ∷ Load own ∷ Library ListLength None 1 ∷ Less ∷ []) N

prepares-source : (slot : ℕ) (s : Source) → PreparesOver W (loop_of W slot s) N N
prepares-source slot (Range own Included from to) =
    (N, ops (Load own ∷ Store slot ∷ Load own ∷ Load (own + 1) ∷ Less ∷ Store (own + 2) ∷ Load (own + 2) ∷ []) N, (N, N, N, N, inr refl, ops (raises own) N, inl refl, inr refl, inl refl, inl refl))
prepares-source slot (Range own Excluded from to) = ops (Load own ∷ Store slot ∷ raises own) N
prepares-source slot (ListSource own list) = ops (Load own ∷ Load (own + 1) ∷ GetItem ∷ Store slot ∷ []) N

loops : (l : Loop) (Body : Turns Known → Known → Known → Type 0) → TriesOver W l N N → PreparesOver W l N N → Body still N N → LoopOver W l Body still
loops l Body t p b = (N, N, N, N, N, N, inr refl, t, inr refl, inr refl, inl refl, p, b, inl refl)

pattern : (own : ℕ) (c : Option Constant) (Next : Known → Type 0) → Next N → PatternOver W own c Next N N
pattern own (Some c) Next n = (N, N, N, ops (Load own ∷ Test (singleton c) ∷ []) N, inr refl, inl refl, inr refl, n)
pattern own None Next n = inl refl

patterns : (own : ℕ) (ts : List TypedPattern) → PatternsOver W own ts N N N
patterns own [] = inl refl
patterns own (t ∷ ts) = pattern own t.value (λ n. PatternsOver W own ts N n N) (patterns own ts)

-- ---- statements: a loop that is left is there

module _ {P : Type 0} (V : Ways P) where
  abbrev around : Option (Turns P) → Option (Turns Known)
  around loop = option_map (λ l. still) loop

  leaves : (loop : Option (Turns P)) (point : Turns P → P) (to : Turns Known → Known) (p : P) → to still ≡ N → IsSomeAnd loop (λ l. V.comes p (point l)) → IsSomeAnd (around loop) (λ l. W.comes N (to l))
  leaves (Some l) point to p e h = inl e
  leaves None point to p e h = absurd h

  -- a way through the second gives one of knowing
  abbrev Through : TypedStmt → TypedStmt → Type 0
  Through u v = (loop : Option (Turns P)) (p q : P) → StmtOver V u loop p q → StmtOver W v (around loop) N N

  through : (u v : TypedStmt) → u ≡ v → Through v v → Through u u
  through u v is h = subst (λ z. Through z z) (sym is) h

  mutual
    stmt : (s u : TypedStmt) → IsBareStmt s u → (loop : Option (Turns P)) (p q : P) → StmtOver V u loop p q → StmtOver W u (around loop) N N
    stmt (Set slot value at) u (v, x, is) = through u (Set slot v at) is (λ loop p q h. (N, expr value.value v.value x, inr refl))
    stmt (Perform form operands at) u (fs, z, is) = through u (Perform form fs at) is (λ loop p q h. (N, exprs operands.items fs.items z, ops (perform_operations form) N))
    stmt (Update t op value at) u (r, v, x, y, is) = through u (Update r op v at) is (λ loop p q h. update t r op value.value v.value x y)
    stmt (If' condition a first b second at) u (c, f, g, x, y, z, is) =
        through u (If c f g at) is (λ loop p q (m, w, (i, k, j, n, t, o, d, r, e, v)).
        (N, expr condition.value c.value x, (N, N, N, N, inr refl, hides W f (around loop) N N (stmts first f.items y loop i k (shows V f loop i k o)), inl refl, inr refl, hides W g (around loop) N N (stmts second g.items z loop j n (shows V g loop j n e)), inl refl)))
    stmt (While' condition a body at) u (c, b, x, y, is) =
        through u (While c b at) is (λ loop p q (l, d, (t, m, i, j, n, k, tick, tries, way, r, out, prepares, block, e), o).
        (still, inl refl, loops (AsLongAs c.value []) (λ l. StmtsOver W (hidden-the_row-TypedStmt-0 b) (Some l)) (expr condition.value c.value x) (inl refl) (hides W b (Some still) N N (stmts body b.items y (Some l) n k (shows V b (Some l) n k block))), inl refl))
    stmt (Foreach' slot source a body at) u (r, b, x, y, is) =
        through u (Foreach slot r b at) is (λ loop p q (o, l, begin, d, (t, m, i, j, n, k, tick, tries, way, w, out, prepares, block, e), f).
        (N, still, begins source r x, inl refl, loops (loop_of W slot r) (λ l. StmtsOver W (hidden-the_row-TypedStmt-0 b) (Some l)) (tries-source slot r) (prepares-source slot r) (hides W b (Some still) N N (stmts body b.items y (Some l) n k (shows V b (Some l) n k block))), inl refl))
    stmt (Match' own subject a cs at) u (e, ds, x, y, is) =
        through u (Match own e ds at) is (λ loop p q (m, n, w, o, h). (
          N,
          N,
          expr subject.value e.value x,
          inr refl,
          clauses-row W (hidden-the_row-TypedClause-1 ds) (around loop) own N N (subst (λ z. ClausesIn W own z (around loop) N N) (sym (clauses-hidden ds))
              (clauses own cs ds.items y loop n q (subst (λ z. ClausesIn V own z loop n q) (clauses-hidden ds) (row-clauses V (hidden-the_row-TypedClause-1 ds) loop own n q h)))),
        ))
    stmt (Return None at) u is = through u (Return None at) is (λ loop p q h. ops (Const constant.Nil ∷ ReturnOp ∷ []) N)
    stmt (Return (Some e) at) u (v, x, is) = through u (Return (Some v) at) is (λ loop p q h. (N, expr e.value v.value x, inr refl))
    stmt (BlockStmt a ss at) u (b, x, is) = through u (BlockOf b at) is (λ loop p q h. hides W b (around loop) N N (stmts ss b.items x loop p q (shows V b loop p q h)))
    stmt (Break at) u is = through u (Break at) is (λ loop p q h. (leaves loop (λ l. l.exit) (λ l. l.exit) p refl h.0, tt))
    stmt (Continue at) u is = through u (Continue at) is (λ loop p q h. (leaves loop (λ l. l.head) (λ l. l.head) p refl h.0, tt))

    stmts : {n : _} (ss : Row_of-TypedStmt n) (us : List TypedStmt) → AreBareStmts ss us → (loop : Option (Turns P)) (p q : P) → BlockOver V us loop p q → BlockOver W us (around loop) N N
    stmts end_of-TypedStmt us is loop p q h = subst (λ z. BlockOver W z (around loop) N N) (sym is) (inl refl)
    stmts (more_of-TypedStmt s rest) us (u, vs, x, are, is) loop p q h =
        let (m, y, k) = subst (λ z. BlockOver V z loop p q) is h in
        subst (λ z. BlockOver W z (around loop) N N) (sym is) (N, stmt s u x loop p m y, stmts rest vs are loop m q k)

    clauses : {n : _} (own : ℕ) (cs : Row_of-TypedClause n) (ds : List TypedClause) → AreBareClauses cs ds → (loop : Option (Turns P)) (p q : P) → ClausesIn V own ds loop p q → ClausesIn W own ds (around loop) N N
    clauses own end_of-TypedClause ds is loop p q h = subst (λ z. ClausesIn W own z (around loop) N N) (sym is) (inl refl)
    clauses own (more_of-TypedClause ps a ss at rest) ds (d, ls, same, x, are, is) loop p q h =
        let (n, b, m, y, block, c, k) = subst (λ z. ClausesIn V own z loop p q) is h in
        subst (λ z. ClausesIn W own z (around loop) N N) (sym is)
        (N, N, N, patterns own (out-TypedClause d).patterns.items, stmts ss (out-TypedClause d).stmts.items x loop b m block, inl refl, clauses own rest ls are loop n q k)

  -- ---- bodies

  -- if what is behind has a way, so has the whole
  abbrev Behind : List Task → Type 0
  Behind ts = (p : P) → TasksOver V ts p None → TasksOver W ts N None

  execs-way : (ss us : List TypedStmt) (ts : List Task) → AllZip IsBareStmt ss us → Behind ts → Behind (execs us ts)
  execs-way [] [] ts z h p way = h p way
  execs-way [] (u ∷ us) ts z h p way = absurd z
  execs-way (s ∷ ss) [] ts z h p way = absurd z
  execs-way (s ∷ ss) (u ∷ us) ts z h p (m, q, c, x, way) = (N, N, inl refl, stmt s u z.0 None m q x, execs-way ss us ts z.1 h q way)

  named-way : (ws vs : List TypedWorker) (ts : List Task) → AllZip IsDeclaredWorker ws vs → Behind ts → Behind (starts_named vs ts)
  named-way [] [] ts z h p way = h p way
  named-way [] (v ∷ vs) ts z h p way = absurd z
  named-way (w ∷ ws) [] ts z h p way = absurd z
  named-way (w ∷ ws) (v ∷ vs) ts z h p (m, q, c, x, way) = (N, N, inl refl, inr refl, h q way)

  values-way : (vs ws : List Initial) (ts : List Task) → AllZip IsDeclaredInitial vs ws → Behind ts → Behind (initialises ws ts)
  values-way [] [] ts z h p way = h p way
  values-way [] (w ∷ ws) ts z h p way = absurd z
  values-way (v ∷ vs) [] ts z h p way = absurd z
  values-way (v ∷ vs) (w ∷ ws) ts z h p (m, q, c, x, (n, r, d, y, way)) = (N, N, inl refl, expr v.value.value w.value.value z.0.1, (N, N, inl refl, inr refl, values-way vs ws ts z.1 h r way))

  -- nil is returned, and no frame comes behind that
  returns-way : TasksOver W (at_end true) N None
  returns-way = (N, N, inl refl, inr refl, (N, Nowhere, inl refl, inl refl, (refl, refl)))

  -- no frame comes behind a statement that can't be done
  none-row : {n : _} (row : Row_of-TypedStmt n) (p : Known) → stmts_in _ row ≡ [] → StmtsOver W row None p p
  none-row end_of-TypedStmt p e = inl refl
  none-row (more_of-TypedStmt s rest) p e = absurd (let bad : ⊥ = cc in bad)

  if-never : (s : TypedStmt) (c : Box TypedExpr) (f g : Vec TypedStmt Global) (type : Shared) (at at' : Place) → out-TypedStmt s ≡ layer.If c f g at → c.value ≡ Implied constant.Nil type at' → f.items ≡ [] → g.items ≡ [] → StmtOver W s None N Nowhere
  unfolding out-TypedStmt Carrier.out
  if-never (If' condition a first b second x) c f g type at at' e n k l =
      let first-none = sym (stmts-shown a first) ∙ (ap (λ y. (firsts y).items) e ∙ k) in
      let second-none = sym (stmts-shown b second) ∙ (ap (λ y. (seconds y).items) e ∙ l) in (
        HasNil,
        subst (λ y. ExprOver W y N HasNil) (sym (ap (λ y. (conditions c y).value) e ∙ n)) (inl refl),
        (Nowhere, Nowhere, Nowhere, Nowhere, inl refl, none-row first Nowhere first-none, inl refl, inl refl, none-row second Nowhere second-none, inl refl),
      )
    where
      firsts : layer.TypedStmt-F TypedStmt TypedClause → Vec TypedStmt Global
      firsts (layer.If x y z w) = y
      firsts _ = f

      seconds : layer.TypedStmt-F TypedStmt TypedClause → Vec TypedStmt Global
      seconds (layer.If x y z w) = z
      seconds _ = g

      conditions : Box TypedExpr → layer.TypedStmt-F TypedStmt TypedClause → Box TypedExpr
      conditions d (layer.If x y z w) = x
      conditions d _ = d
  if-never (Set slot value x) c f g type at at' e n k l = absurd (let bad : ⊥ = cc in bad)
  if-never (Perform form operands x) c f g type at at' e n k l = absurd (let bad : ⊥ = cc in bad)
  if-never (Update t op value x) c f g type at at' e n k l = absurd (let bad : ⊥ = cc in bad)
  if-never (While' condition a body x) c f g type at at' e n k l = absurd (let bad : ⊥ = cc in bad)
  if-never (Foreach' slot source a body x) c f g type at at' e n k l = absurd (let bad : ⊥ = cc in bad)
  if-never (Match' own subject a cs x) c f g type at at' e n k l = absurd (let bad : ⊥ = cc in bad)
  if-never (Return value x) c f g type at at' e n k l = absurd (let bad : ⊥ = cc in bad)
  if-never (BlockStmt a ss x) c f g type at at' e n k l = absurd (let bad : ⊥ = cc in bad)
  if-never (Break x) c f g type at at' e n k l = absurd (let bad : ⊥ = cc in bad)
  if-never (Continue x) c f g type at at' e n k l = absurd (let bad : ⊥ = cc in bad)

  end-way : (ends : Bool) (end : List TypedStmt) → IsEnd ends end → TasksOver W (execs end (at_end ends)) N None
  end-way true end is = subst (λ ss. TasksOver W (execs ss (at_end true)) N None) (sym is) returns-way
  end-way false end (s, is, never) =
      subst (λ ss. TasksOver W (execs ss []) N None) (sym is)
      (N, Nowhere, inl refl, if-never s never.condition never.first never.second never.type never.at never.at never.is never.nil never.nothing never.as_well, (refl, refl))

  ended-way : (ends : Bool) (ss us : List TypedStmt) → AreDeclared ends ss us → Behind (execs us (at_end ends))
  ended-way ends ss us (vs, end, z, last, is) =
      subst (λ ts. Behind ts) (sym (ap (λ xs. execs xs (at_end ends)) is ∙ execs-append vs end (at_end ends)))
      (execs-way ss vs (execs end (at_end ends)) z (λ p way. end-way ends end last))

  -- the body of a unit
  pub body-way : {b c : UnitBody} → IsBody b c → Behind (body_tasks c)
  body-way (of_function (BlockBody initial workers rest ends close) (BlockBody initial' workers' rest' ends' close') (first, crew, last, e)) p way =
      execs-way initial.items initial'.items (starts_named workers'.items (execs rest'.items (at_end ends'))) first
      (named-way workers.items workers'.items (execs rest'.items (at_end ends')) crew
      (subst (λ x. Behind (execs rest'.items (at_end x))) (sym e) (ended-way ends rest.items rest'.items last))) p way
  body-way (of_function (ValueBody value) (ValueBody value') is) p way = (N, N, inl refl, expr value.value value'.value is, (N, Nowhere, inl refl, inl refl, (refl, refl)))
  body-way (of_function (BlockBody initial workers rest ends close) (ValueBody value) is) p way = absurd is
  body-way (of_function (ValueBody value) (BlockBody initial workers rest ends close) is) p way = absurd is
  body-way (of_worker ss us ends is) p way = ended-way ends ss us is p way
  body-way (of_anonymous e f is) p way = (N, N, inl refl, expr e f is, (N, Nowhere, inl refl, inl refl, (refl, refl)))
  body-way (of_initialiser vs ws z) p way = values-way vs ws (at_end true) z (λ p way. returns-way) p way
