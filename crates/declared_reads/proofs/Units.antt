-- The units of a package whose variables are read as declared are those of the package, one by one.
use Rattle.std.proofs.Common.{◌≡◌, ◌++◌, ◌∙◌, ◌==◌, ℕ, Bool, true, false, List, [], ◌∷◌, Some, None, append-nil, append_assoc, refl, sym, subst, ap}
use Rattle.std.specs.Prelude.{find, if◌then◌else◌, map}
use Rattle.bal_base.specs.declared.place.Place.{Place}
use Rattle.operations.specs.declared.operation.Constant.TheVariants as constant
use Rattle.std.specs.List.{AllZip}
use denote.Hole.Carrier
use Rattle.typed_tree.specs.declared.expr.TypedExpr.{TypedExpr, TypedExpr-F, out-TypedExpr, Strict, Strict', Implied, Local as Variable, And, And', Or, Or', Conditional, Conditional', Elvis, Elvis', Check, Check', Trap, Trap', Function, Function', Parens, Parens', Row_of-TypedExpr, end_of-TypedExpr, more_of-TypedExpr, items-the_row-TypedExpr as exprs_in, items_shown-the_row-TypedExpr-0 as exprs-shown}
use Rattle.typed_tree.specs.declared.expr.TypedExpr.TheOpen as expr_layer
use Rattle.typed_tree.specs.declared.expr.TypedExpr.TheVariants.{outs-Strict}
use Rattle.typed_tree.specs.declared.stmt.TypedStmt.TheOpen as layer
use Rattle.typed_tree.specs.declared.stmt.TypedStmt.TheVariants.{outs-Block, outs-Foreach, outs-If, outs-Match, outs-While}
use Rattle.typed_tree.specs.declared.package.Initial.{Initial}
use Rattle.typed_tree.specs.declared.package.Initialiser.{Initialiser}
use Rattle.typed_tree.specs.declared.package.TypedPackage.{TypedPackage}
use Rattle.typed_tree.specs.declared.stmt.Source.{Source}
use Rattle.typed_tree.specs.declared.stmt.Source.TheVariants.{Range, List as ListSource}
use Rattle.typed_tree.specs.declared.stmt.TypedClause.{TypedClause, fold_out-TypedClause, out-TypedClause}
use Rattle.typed_tree.specs.declared.stmt.TypedStmt.TheBlock.{shown-the_row-TypedStmt-0}
use Rattle.typed_tree.specs.declared.stmt.TypedStmt.{TypedStmt, TypedStmt-F, fold_out-TypedStmt, map-TypedStmt, out-TypedStmt, Set, Perform, Update, If', While', Foreach', Match', Return, Block' as BlockStmt, Break, Continue, Row_of-TypedStmt, end_of-TypedStmt, more_of-TypedStmt, items-the_row-TypedStmt as stmts_in, items_shown-the_row-TypedStmt-0 as stmts-shown, Row_of-TypedClause, end_of-TypedClause, more_of-TypedClause, items-the_row-TypedClause as clauses_in, items_shown-the_row-TypedClause-1 as clauses-shown}
use Rattle.typed_tree.specs.declared.stmt.UpdateTarget.{UpdateTarget}
use Rattle.typed_tree.specs.declared.stmt.UpdateTarget.TheVariants as target
use Rattle.typed_tree.specs.declared.unit.TypedBody.{TypedBody}
use Rattle.typed_tree.specs.declared.unit.TypedBody.TheVariants.{Block as BlockBody, Expr as ValueBody}
use Rattle.typed_tree.specs.declared.unit.TypedFunction.{TypedFunction}
use Rattle.typed_tree.specs.declared.unit.TypedWorker.{TypedWorker}
use Rattle.typed_tree.specs.Listed.{Listed, nothing, one, ◌&◌, joined, members}
use Rattle.typed_tree.specs.SharedTypes.{Shared}
use Rattle.typed_tree.specs.StmtLayers.{of_typed_clause, of_typed_stmt}
use Rattle.typed_tree.specs.Units.{UnitBody, OfFunction, OfWorker, OfAnonymous, OfInitialiser, UnitTree, body_units, expr_units, function_units, initial_units, initialiser_units, listing, source_units, stmt_step, stmts_units, target_units, unit_at, units_of, worker_units}
use Rattle.typed_tree.proofs.SeenParts.{para_out}
use Rattle.machine_model.specs.Following.{Both}
use Rattle.declared_reads.specs.Declared.{AreBare, AreBareClauses, AreBareStmts, AreDeclared, IsBare, IsBareSource, IsBareStmt, IsBareTarget, IsDeclared, IsDeclaredBody, IsDeclaredFunction, IsDeclaredInitial, IsDeclaredInitialiser, IsDeclaredWorker, IsEnd, IsNever}
use Rattle.declared_reads.proofs.Following.{AreBareAll, shown, zip-append}

pub data IsBody : UnitBody → UnitBody → Type 0 where
  of_function : (b c : TypedBody) → IsDeclaredBody b c → IsBody (OfFunction b) (OfFunction c)
  of_worker : (ss us : List TypedStmt) (ends : Bool) → AreDeclared ends ss us → IsBody (OfWorker ss ends) (OfWorker us ends)
  of_anonymous : (e f : TypedExpr) → IsBare e f → IsBody (OfAnonymous e) (OfAnonymous f)
  of_initialiser : (vs ws : List Initial) → AllZip IsDeclaredInitial vs ws → IsBody (OfInitialiser vs) (OfInitialiser ws)

pub record IsUnit (u v : UnitTree) : Type 0 where
  pub unit : v.unit ≡ u.unit
  pub body : IsBody u.body v.body

record Zipped (l m : Listed UnitTree) : Type 0 where
  are : AllZip IsUnit (members l) (members m)

none : Zipped nothing nothing
none = record { are = tt }

both : {a b c d : Listed UnitTree} → Zipped a b → Zipped c d → Zipped (a & c) (b & d)
both {a} {b} {c} {d} h k = record { are = zip-append IsUnit (members a) (members b) (members c) (members d) h.are k.are }

with-one : {u v : UnitTree} {l m : Listed UnitTree} → IsUnit u v → Zipped l m → Zipped (one u & l) (one v & m)
with-one h k = record { are = (h, k.are) }

zip-units : {A B : Type 0} (R : A → B → Type 0) (f : A → Listed UnitTree) (g : B → Listed UnitTree) → ((x : A) (y : B) → R x y → Zipped (f x) (g y)) →
    (xs : List A) (ys : List B) → AllZip R xs ys → Zipped (joined (map f xs)) (joined (map g ys))
zip-units R f g each [] [] h = none
zip-units R f g each [] (y ∷ ys) h = absurd h
zip-units R f g each (x ∷ xs) [] h = absurd h
zip-units R f g each (x ∷ xs) (y ∷ ys) h = both (each x y h.0) (zip-units R f g each xs ys h.1)

-- ---- expressions

by : (e f g : TypedExpr) {l m : Listed UnitTree} → g ≡ f → expr_units e ≡ l → expr_units f ≡ m → Zipped l m → Zipped (expr_units e) (expr_units g)
by e f g {l} {m} is p q h = subst (λ x. Zipped (expr_units e) (expr_units x)) (sym is) (subst (λ x. Zipped x (expr_units f)) (sym p) (subst (λ x. Zipped l x) (sym q) h))

abbrev With : TypedExpr → TypedExpr × Listed UnitTree
With t = (t, expr_units t)

abbrev listed : List TypedExpr → Listed UnitTree
listed es = joined (map (λ e. e.1) (map With es))

operands_of : List TypedExpr → TypedExpr-F TypedExpr → List TypedExpr
operands_of es (expr_layer.Strict form v type at) = v.items
operands_of es _ = es

mutual
  unfolding out-TypedExpr Carrier.out operands_of

  expr-units : (e f : TypedExpr) → IsBare e f → Zipped (expr_units e) (expr_units f)
  expr-units (Strict' form shape operands type at) g (fs, are, is) =
      by (Strict' form shape operands type at) (Strict form fs type at) g is (para_out _ _ (Strict' form shape operands type at)) (para_out _ _ (Strict form fs type at))
      (subst (λ xs. Zipped (listed xs) (listed (operands_of [] (out-TypedExpr (Strict form fs type at))))) (sym (exprs-shown shape operands))
      (subst (λ ys. Zipped (listed (exprs_in _ operands)) (listed ys)) (sym (ap (operands_of []) (outs-Strict form fs type at))) (row-units operands fs.items are)))
  expr-units (Implied value type at) g is = by (Implied value type at) (Implied value type at) g is (para_out _ _ (Implied value type at)) (para_out _ _ (Implied value type at)) none
  expr-units (Variable slot narrowed type at) g is =
      by (Variable slot narrowed type at) (Variable slot false type at) g is (para_out _ _ (Variable slot narrowed type at)) (para_out _ _ (Variable slot false type at)) none
  expr-units (And' a left b right type at) g (l, r, x, y, is) =
      by (And' a left b right type at) (And l r type at) g is (para_out _ _ (And' a left b right type at)) (para_out _ _ (And l r type at)) (both (expr-units left l.value x) (expr-units right r.value y))
  expr-units (Or' a left b right type at) g (l, r, x, y, is) =
      by (Or' a left b right type at) (Or l r type at) g is (para_out _ _ (Or' a left b right type at)) (para_out _ _ (Or l r type at)) (both (expr-units left l.value x) (expr-units right r.value y))
  expr-units (Conditional' a condition b middle c last type at) g (k, m, l, x, y, z, is) =
      by (Conditional' a condition b middle c last type at) (Conditional k m l type at) g is (para_out _ _ (Conditional' a condition b middle c last type at)) (para_out _ _ (Conditional k m l type at))
      (both (expr-units condition k.value x) (both (expr-units middle m.value y) (expr-units last l.value z)))
  expr-units (Elvis' own a left b right type at) g (l, r, t, x, y, any, is) =
      by (Elvis' own a left b right type at) (Elvis own l r t at) g is (para_out _ _ (Elvis' own a left b right type at)) (para_out _ _ (Elvis own l r t at)) (both (expr-units left l.value x) (expr-units right r.value y))
  expr-units (Check' panics own a operand type at) g (o, t, x, any, is) =
      by (Check' panics own a operand type at) (Check panics own o t at) g is (para_out _ _ (Check' panics own a operand type at)) (para_out _ _ (Check panics own o t at)) (expr-units operand o.value x)
  expr-units (Trap' a operand type at) g (o, x, is) =
      by (Trap' a operand type at) (Trap o type at) g is (para_out _ _ (Trap' a operand type at)) (para_out _ _ (Trap o type at)) (expr-units operand o.value x)
  expr-units (Function' function a value type at) g (h, v, same, x, is) =
      by (Function' function a value type at) (Function h v type at) g is (para_out _ _ (Function' function a value type at)) (para_out _ _ (Function h v type at))
      (with-one (record { unit = same.unit; body = of_anonymous value v.value x }) (expr-units value v.value x))
  expr-units (Parens' a inner type at) g (i, x, is) =
      by (Parens' a inner type at) (Parens i type at) g is (para_out _ _ (Parens' a inner type at)) (para_out _ _ (Parens i type at)) (expr-units inner i.value x)

  row-units : {n : _} (row : Row_of-TypedExpr n) (fs : List TypedExpr) → AreBare row fs → Zipped (listed (exprs_in _ row)) (listed fs)
  row-units end_of-TypedExpr fs is = subst (λ x. Zipped nothing (listed x)) (sym is) none
  row-units (more_of-TypedExpr e rest) fs (f, gs, x, are, is) = subst (λ z. Zipped (listed (e ∷ exprs_in _ rest)) (listed z)) (sym is) (both (expr-units e f x) (row-units rest gs are))

-- ---- statements

abbrev U : TypedStmt → Listed UnitTree
U = of_typed_stmt listing

abbrev C : TypedClause → Listed UnitTree
C = of_typed_clause listing

abbrev laid : TypedStmt-F TypedStmt TypedClause → Listed UnitTree
laid l = stmt_step (map-TypedStmt TypedStmt TypedClause (Listed UnitTree) (Listed UnitTree) U C l)

out : (s : TypedStmt) → U s ≡ laid (out-TypedStmt s)
out s = fold_out-TypedStmt _ _ listing.stmt listing.clause s

-- by the layers of both
stmt-by : (s t : TypedStmt) (l : TypedStmt-F TypedStmt TypedClause) → out-TypedStmt t ≡ l → Zipped (laid (out-TypedStmt s)) (laid l) → Zipped (U s) (U t)
stmt-by s t l o h = subst (λ x. Zipped x (U t)) (sym (out s)) (subst (λ x. Zipped (laid (out-TypedStmt s)) x) (sym (out t ∙ ap laid o)) h)

clause-by : (c d : TypedClause) → Zipped (joined (map U (out-TypedClause c).stmts.items)) (joined (map U (out-TypedClause d).stmts.items)) → Zipped (C c) (C d)
clause-by c d h =
    subst (λ x. Zipped x (C d)) (sym (fold_out-TypedClause _ _ listing.stmt listing.clause c))
    (subst (λ x. Zipped (joined (map U (out-TypedClause c).stmts.items)) x) (sym (fold_out-TypedClause _ _ listing.stmt listing.clause d)) h)

target-units : (t u : UpdateTarget) → IsBareTarget t u → Zipped (target_units t) (target_units u)
target-units (target.Local slot narrowed type) u is = subst (λ x. Zipped nothing (target_units x)) (sym is) none
target-units (target.Variable m) u is = subst (λ x. Zipped nothing (target_units x)) (sym is) none
target-units (target.Member own how container key type) u (c, k, x, y, is) =
    subst (λ z. Zipped (target_units (target.Member own how container key type)) (target_units z)) (sym is) (both (expr-units container.value c.value x) (expr-units key.value k.value y))

source-units : (s r : Source) → IsBareSource s r → Zipped (source_units s) (source_units r)
source-units (Range own end from to) r (f, t, x, y, is) =
    subst (λ z. Zipped (source_units (Range own end from to)) (source_units z)) (sym is) (both (expr-units from.value f.value x) (expr-units to.value t.value y))
source-units (ListSource own list) r (l, x, is) = subst (λ z. Zipped (source_units (ListSource own list)) (source_units z)) (sym is) (expr-units list.value l.value x)

shown-units : (shape : _) (row : _) (us : List TypedStmt) → Zipped (joined (map U (stmts_in _ row))) (joined (map U us)) → Zipped (joined (map U (shown shape row))) (joined (map U us))
shown-units shape row us h = subst (λ xs. Zipped (joined (map U xs)) (joined (map U us))) (sym (stmts-shown shape row)) h

mutual
  unfolding out-TypedStmt Carrier.out

  stmt-units : (s u : TypedStmt) → IsBareStmt s u → Zipped (U s) (U u)
  stmt-units (Set slot value at) u (v, x, is) = stmt-by (Set slot value at) u (layer.Set slot v at) (ap out-TypedStmt is) (expr-units value.value v.value x)
  stmt-units (Perform form operands at) u (fs, z, is) =
      stmt-by (Perform form operands at) u (layer.Perform form fs at) (ap out-TypedStmt is) (zip-units IsBare expr_units expr_units expr-units operands.items fs.items z)
  stmt-units (Update t op value at) u (r, v, x, y, is) =
      stmt-by (Update t op value at) u (layer.Update r op v at) (ap out-TypedStmt is) (both (target-units t r x) (expr-units value.value v.value y))
  stmt-units (If' condition a first b second at) u (c, f, g, x, y, z, is) =
      stmt-by (If' condition a first b second at) u (layer.If c f g at) (ap out-TypedStmt is ∙ outs-If c f g at)
      (both (expr-units condition.value c.value x) (both (shown-units a first f.items (stmts-row-units first f.items y)) (shown-units b second g.items (stmts-row-units second g.items z))))
  stmt-units (While' condition a body at) u (c, b, x, y, is) =
      stmt-by (While' condition a body at) u (layer.While c b at) (ap out-TypedStmt is ∙ outs-While c b at)
      (both (expr-units condition.value c.value x) (shown-units a body b.items (stmts-row-units body b.items y)))
  stmt-units (Foreach' slot source a body at) u (r, b, x, y, is) =
      stmt-by (Foreach' slot source a body at) u (layer.Foreach slot r b at) (ap out-TypedStmt is ∙ outs-Foreach slot r b at)
      (both (source-units source r x) (shown-units a body b.items (stmts-row-units body b.items y)))
  stmt-units (Match' own subject a clauses at) u (e, cs, x, y, is) =
      stmt-by (Match' own subject a clauses at) u (layer.Match own e cs at) (ap out-TypedStmt is ∙ outs-Match own e cs at)
      (both (expr-units subject.value e.value x)
      (subst (λ xs. Zipped (joined (map C xs)) (joined (map C cs.items))) (sym (clauses-shown a clauses)) (clauses-units clauses cs.items y)))
  stmt-units (Return None at) u is = stmt-by (Return None at) u (layer.Return None at) (ap out-TypedStmt is) none
  stmt-units (Return (Some e) at) u (v, x, is) = stmt-by (Return (Some e) at) u (layer.Return (Some v) at) (ap out-TypedStmt is) (expr-units e.value v.value x)
  stmt-units (BlockStmt a stmts at) u (b, x, is) =
      stmt-by (BlockStmt a stmts at) u (layer.Block b at) (ap out-TypedStmt is ∙ outs-Block b at) (shown-units a stmts b.items (stmts-row-units stmts b.items x))
  stmt-units (Break at) u is = stmt-by (Break at) u (layer.Break at) (ap out-TypedStmt is) none
  stmt-units (Continue at) u is = stmt-by (Continue at) u (layer.Continue at) (ap out-TypedStmt is) none

  stmts-row-units : {n : _} (row : Row_of-TypedStmt n) (us : List TypedStmt) → AreBareStmts row us → Zipped (joined (map U (stmts_in _ row))) (joined (map U us))
  stmts-row-units end_of-TypedStmt us is = subst (λ x. Zipped nothing (joined (map U x))) (sym is) none
  stmts-row-units (more_of-TypedStmt s rest) us (u, vs, x, are, is) =
      subst (λ z. Zipped (joined (map U (s ∷ stmts_in _ rest))) (joined (map U z))) (sym is) (both (stmt-units s u x) (stmts-row-units rest vs are))

  clauses-units : {n : _} (row : Row_of-TypedClause n) (ds : List TypedClause) → AreBareClauses row ds → Zipped (joined (map C (clauses_in _ row))) (joined (map C ds))
  clauses-units end_of-TypedClause ds is = subst (λ x. Zipped nothing (joined (map C x))) (sym is) none
  clauses-units (more_of-TypedClause patterns a stmts at rest) ds (d, ls, ps, x, are, is) =
      let c : TypedClause = record { patterns = patterns; stmts = shown-the_row-TypedStmt-0 a stmts; at = at } in
      subst (λ z. Zipped (joined (map C (c ∷ clauses_in _ rest))) (joined (map C z))) (sym is)
      (both (clause-by c d (shown-units a stmts (out-TypedClause d).stmts.items (stmts-row-units stmts (out-TypedClause d).stmts.items x))) (clauses-units rest ls are))

all-units : (ss us : List TypedStmt) → AreBareAll ss us → Zipped (stmts_units ss) (stmts_units us)
all-units ss us z = zip-units IsBareStmt U U stmt-units ss us z

-- ---- ends

nil-none : (type : Shared) (at : Place) → members (expr_units (Implied constant.Nil type at)) ++ [] ≡ []
unfolding out-TypedExpr Carrier.out
nil-none type at = ap (λ l. members l ++ []) (para_out _ _ (Implied constant.Nil type at))

-- a statement that can't be done has no units
never-none : (s : TypedStmt) → IsNever s → members (U s) ≡ []
never-none s is =
    ap members (out s)
    ∙ (ap (λ l. members (laid l)) is.is
    ∙ (ap (λ xs. members (expr_units is.condition.value) ++ (members (joined (map U xs)) ++ members (joined (map U is.second.items)))) is.nothing
    ∙ (ap (λ xs. members (expr_units is.condition.value) ++ members (joined (map U xs))) is.as_well
    ∙ (ap (λ e. members (expr_units e) ++ []) is.nil ∙ nil-none is.type is.at))))

end-none : (ends : Bool) (end : List TypedStmt) → IsEnd ends end → members (stmts_units end) ≡ []
end-none true end is = ap (λ ss. members (stmts_units ss)) is
end-none false end (s, is, never) = ap (λ ss. members (stmts_units ss)) is ∙ ap (λ l. l ++ []) (never-none s never)

stmts-append : (ss us : List TypedStmt) → members (stmts_units (ss ++ us)) ≡ members (stmts_units ss) ++ members (stmts_units us)
stmts-append [] us = refl
stmts-append (s ∷ ss) us = ap (λ l. members (U s) ++ l) (stmts-append ss us) ∙ sym (append_assoc (members (U s)) (members (stmts_units ss)) (members (stmts_units us)))

ended-units : (ends : Bool) (ss us : List TypedStmt) → AreDeclared ends ss us → Zipped (stmts_units ss) (stmts_units us)
ended-units ends ss us (vs, end, z, last, is) =
    record {
      are = subst (λ l. AllZip IsUnit (members (stmts_units ss)) l)
          (sym (ap (λ x. members (stmts_units x)) is ∙ (stmts-append vs end ∙ (ap (λ l. members (stmts_units vs) ++ l) (end-none ends end last) ∙ append-nil (members (stmts_units vs))))))
          (all-units ss vs z).are;
    }

-- ---- packages

worker-units : (w v : TypedWorker) → IsDeclaredWorker w v → Zipped (worker_units w) (worker_units v)
worker-units w v is =
    with-one (record { unit = is.unit; body = subst (λ e. IsBody (OfWorker w.stmts.items w.ends) (OfWorker v.stmts.items e)) (sym is.ends) (of_worker w.stmts.items v.stmts.items w.ends is.stmts) })
    (ended-units w.ends w.stmts.items v.stmts.items is.stmts)

body-units : (b c : TypedBody) → IsDeclaredBody b c → Zipped (body_units b) (body_units c)
body-units (BlockBody initial workers rest ends close) (BlockBody initial' workers' rest' ends' close') (first, crew, last, e) =
    both (all-units initial.items initial'.items first)
    (both (zip-units IsDeclaredWorker worker_units worker_units worker-units workers.items workers'.items crew) (ended-units ends rest.items rest'.items last))
body-units (ValueBody value) (ValueBody value') is = expr-units value.value value'.value is
body-units (BlockBody initial workers rest ends close) (ValueBody value) is = absurd is
body-units (ValueBody value) (BlockBody initial workers rest ends close) is = absurd is

function-units : (f g : TypedFunction) → IsDeclaredFunction f g → Zipped (function_units f) (function_units g)
function-units f g is = with-one (record { unit = is.0; body = of_function f.body g.body is.1 }) (body-units f.body g.body is.1)

initialiser-units : (i j : Initialiser) → IsDeclaredInitialiser i j → Zipped (initialiser_units i) (initialiser_units j)
initialiser-units i j is =
    with-one (record { unit = is.0; body = of_initialiser i.values.items j.values.items is.1 })
    (zip-units IsDeclaredInitial initial_units initial_units (λ x y r. expr-units x.value.value y.value.value r.1) i.values.items j.values.items is.1)

-- by their numbers
found : (n : ℕ) (us vs : List UnitTree) → AllZip IsUnit us vs → Both IsUnit (find (λ u. u.unit.number == n) us) (find (λ u. u.unit.number == n) vs)
found n [] [] h = tt
found n [] (v ∷ vs) h = absurd h
found n (u ∷ us) [] h = absurd h
found n (u ∷ us) (v ∷ vs) h = subst (λ x. Both IsUnit (find (λ u. u.unit.number == n) (u ∷ us)) (if x.number == n then Some v else find (λ u. u.unit.number == n) vs)) (sym h.0.unit) (by-test (u.unit.number == n) (found n us vs h.1))
  where
    by-test : (b : Bool) → Both IsUnit (find (λ u. u.unit.number == n) us) (find (λ u. u.unit.number == n) vs) → Both IsUnit (if b then Some u else find (λ u. u.unit.number == n) us) (if b then Some v else find (λ u. u.unit.number == n) vs)
    by-test true k = h.0
    by-test false k = k

module _ (p q : TypedPackage) (is : IsDeclared p q) where
  pub units-zip : AllZip IsUnit (units_of p) (units_of q)
  units-zip =
      (both
      (zip-units IsDeclaredFunction function_units function_units function-units p.functions.items q.functions.items is.functions)
      (zip-units IsDeclaredInitialiser initialiser_units initialiser_units initialiser-units p.initialisers.items q.initialisers.items is.initialisers)).are

  pub unit-zip : (n : ℕ) → Both IsUnit (unit_at p n) (unit_at q n)
  unit-zip n = found n (units_of p) (units_of q) units-zip
