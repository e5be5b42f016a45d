-- A package whose variables are read as declared makes its structures, functions and futures with the same atoms.
use Rattle.std.proofs.Common.{◌≡◌, ◌⊎◌, ◌++◌, ◌∙◌, ℕ, Bool, true, false, List, [], ◌∷◌, Option, Some, None, IsSomeAnd, length, append-nil, append_assoc, refl, sym, subst, ap, inl, inr, zero, suc, arith}
use Rattle.std.specs.Prelude.{Any, Contains, map}
use Rattle.std.specs.List.{AllZip}
use Rattle.std.specs.Global.{Box, Global}
use Rattle.std.specs.declared.vec.Vec.{Vec}
use denote.Hole.Carrier
use Rattle.std.proofs.lemmas.Slice.Zip.{AllZip-long}
use Rattle.typed_tree.specs.declared.expr.AnonymousFunction.{AnonymousFunction}
use Rattle.typed_tree.specs.declared.expr.TypedExpr.TheOpen as expr_layer
use Rattle.typed_tree.specs.declared.expr.TypedExpr.TheVariants.{outs-Strict}
use Rattle.typed_tree.specs.declared.stmt.TypedStmt.TheVariants.{outs-Block, outs-Foreach, outs-If, outs-Match, outs-While}
use Rattle.bal_base.specs.declared.place.Place.{Place}
use Rattle.type_model.specs.declared.atoms.AtomDef.{AtomDef}
use Rattle.operations.specs.declared.operation.Constant.TheVariants as constant
use Rattle.operations.specs.declared.operation.Operation.{Operation}
use Rattle.operations.specs.declared.operation.Operation.TheVariants.{MakeFunction}
use Rattle.operations.specs.Uses.{Use, atoms_made, units_valued, use_of}
use Rattle.held_operations.specs.Constructs.{operations_of}
use Rattle.value_model.specs.Meaning.{Answers}
use Rattle.typed_tree.specs.declared.expr.TypedExpr.{TypedExpr, fold_out-TypedExpr, out-TypedExpr, Strict, Strict', Implied, Local as Variable, And, And', Or, Or', Conditional, Conditional', Elvis, Elvis', Check, Check', Trap, Trap', Function, Function', Parens, Parens', TypedExpr-F, Row_of-TypedExpr, end_of-TypedExpr, more_of-TypedExpr, items-the_row-TypedExpr as exprs_in, items_shown-the_row-TypedExpr-0 as exprs-shown}
use Rattle.typed_tree.specs.declared.package.TypedPackage.{TypedPackage}
use Rattle.typed_tree.specs.declared.stmt.Source.{Source}
use Rattle.typed_tree.specs.declared.stmt.Source.TheVariants.{Range, List as ListSource}
use Rattle.typed_tree.specs.declared.stmt.TypedClause.{TypedClause, fold_out-TypedClause, out-TypedClause}
use Rattle.typed_tree.specs.declared.stmt.TypedStmt.{TypedStmt, fold_out-TypedStmt, out-TypedStmt, TypedStmt-F, Set, Perform, Update, If, If', While, While', Foreach, Foreach', Match, Match', Return, Block as BlockOf, Block' as BlockStmt, Break, Continue, Row_of-TypedStmt, end_of-TypedStmt, more_of-TypedStmt, items-the_row-TypedStmt as stmts_in, items_shown-the_row-TypedStmt-0 as stmts-shown, Row_of-TypedClause, end_of-TypedClause, more_of-TypedClause, items-the_row-TypedClause as clauses_in, items_shown-the_row-TypedClause-1 as clauses-shown}
use Rattle.typed_tree.specs.declared.stmt.TypedStmt.TheOpen as layer
use Rattle.typed_tree.specs.declared.stmt.UpdateTarget.{UpdateTarget}
use Rattle.typed_tree.specs.declared.stmt.UpdateTarget.TheVariants as target
use Rattle.typed_tree.specs.declared.unit.TypedBody.TheVariants.{Block as BlockBody, Expr as ValueBody}
use Rattle.typed_tree.specs.Listed.{Listed, nothing, one, ◌&◌, joined, members}
use Rattle.typed_tree.specs.SharedTypes.{Shared}
use Rattle.typed_tree.specs.Units.{UnitBody, UnitTree, unit_at, units_of}
use Rattle.op_model.specs.Inherent.{fills as fills_so, named as named_so}
use Rattle.machine_model.specs.Following.{Both}
use Rattle.eval_model.specs.Inherent.{IsInherentIn, IsNamed, body_uses, expr_uses, makes as made_so, rest as rest_so, stmts_uses, uses_of, values as valued_so, words as words_so}
use Rattle.eval_model.specs.Expressions.{makes_function}
use Rattle.eval_model.specs.Trees.{launch_of}
use Rattle.lower_model.proofs.Allowed.{same-is-allowed}
use Rattle.declared_reads.specs.Declared.{AreBare, AreBareClauses, AreBareStmts, AreDeclared, IsBare, IsBareCapture, IsBareFunction, IsBareSource, IsBareStmt, IsBareTarget, IsDeclared, IsDeclaredInitial, IsEnd}
use Rattle.declared_reads.specs.Laws.{DeclaredSameIsAllowed}
use Rattle.declared_reads.proofs.Machines.{declared-does-the-same, launch-same}
use Rattle.declared_reads.proofs.Narrowing.{declared-narrows-well}
use Rattle.declared_reads.proofs.Following.{shown, shown_clauses}
use Rattle.declared_reads.proofs.Units.{IsBody, IsUnit, of_anonymous, of_function, of_initialiser, of_worker, unit-zip, units-zip}

-- ---- uses of trees, which are listed alike

abbrev X : TypedExpr → Listed Use
X = expr_uses

abbrev uses : List Operation → Listed Use
uses ops = joined (map (λ op. one (use_of op)) ops)

-- both by their layers
by : (e f g : TypedExpr) {l m : Listed Use} → g ≡ f → X f ≡ l → X e ≡ m → l ≡ m → X g ≡ X e
by e f g is p q h = ap X is ∙ (p ∙ (h ∙ sym q))

operands_of : TypedExpr-F TypedExpr → List TypedExpr
operands_of (expr_layer.Strict form v type at) = v.items
operands_of _ = []

same-function : (f g : AnonymousFunction) → IsBareFunction f g → makes_function g ≡ makes_function f
same-function f g is = λ i. MakeFunction (is.unit i).number (AllZip-long IsBareCapture f.captured g.captured is.captured i)

mutual
  unfolding out-TypedExpr Carrier.out operands_of

  expr-uses : (e f : TypedExpr) → IsBare e f → X f ≡ X e
  expr-uses (Strict' form shape operands type at) g (fs, are, is) =
      by (Strict' form shape operands type at) (Strict form fs type at) g is (fold_out-TypedExpr _ _ (Strict form fs type at)) (fold_out-TypedExpr _ _ (Strict' form shape operands type at))
      (ap (λ xs. joined xs & uses (operations_of form (length xs)))
      (ap (λ l. map X (operands_of l)) (outs-Strict form fs type at) ∙ (row-uses operands fs.items are ∙ sym (ap (map X) (exprs-shown shape operands)))))
  expr-uses (Implied value type at) g is = ap X is
  expr-uses (Variable slot narrowed type at) g is = by (Variable slot narrowed type at) (Variable slot false type at) g is (fold_out-TypedExpr _ _ (Variable slot false type at)) (fold_out-TypedExpr _ _ (Variable slot narrowed type at)) refl
  expr-uses (And' a left b right type at) g (l, r, x, y, is) =
      by (And' a left b right type at) (And l r type at) g is (fold_out-TypedExpr _ _ (And l r type at)) (fold_out-TypedExpr _ _ (And' a left b right type at)) (λ i. expr-uses left l.value x i & expr-uses right r.value y i)
  expr-uses (Or' a left b right type at) g (l, r, x, y, is) =
      by (Or' a left b right type at) (Or l r type at) g is (fold_out-TypedExpr _ _ (Or l r type at)) (fold_out-TypedExpr _ _ (Or' a left b right type at)) (λ i. expr-uses left l.value x i & expr-uses right r.value y i)
  expr-uses (Conditional' a condition b middle c last type at) g (k, m, l, x, y, z, is) =
      by (Conditional' a condition b middle c last type at) (Conditional k m l type at) g is (fold_out-TypedExpr _ _ (Conditional k m l type at)) (fold_out-TypedExpr _ _ (Conditional' a condition b middle c last type at))
      (λ i. expr-uses condition k.value x i & expr-uses middle m.value y i & expr-uses last l.value z i)
  expr-uses (Elvis' own a left b right type at) g (l, r, t, x, y, any, is) =
      by (Elvis' own a left b right type at) (Elvis own l r t at) g is (fold_out-TypedExpr _ _ (Elvis own l r t at)) (fold_out-TypedExpr _ _ (Elvis' own a left b right type at)) (λ i. expr-uses left l.value x i & expr-uses right r.value y i)
  expr-uses (Check' panics own a operand type at) g (o, t, x, any, is) =
      by (Check' panics own a operand type at) (Check panics own o t at) g is (fold_out-TypedExpr _ _ (Check panics own o t at)) (fold_out-TypedExpr _ _ (Check' panics own a operand type at)) (expr-uses operand o.value x)
  expr-uses (Trap' a operand type at) g (o, x, is) = by (Trap' a operand type at) (Trap o type at) g is (fold_out-TypedExpr _ _ (Trap o type at)) (fold_out-TypedExpr _ _ (Trap' a operand type at)) (expr-uses operand o.value x)
  expr-uses (Function' function a value type at) g (h, v, same, x, is) =
      by (Function' function a value type at) (Function h v type at) g is (fold_out-TypedExpr _ _ (Function h v type at)) (fold_out-TypedExpr _ _ (Function' function a value type at))
      (ap (λ o. one (use_of o)) (same-function function.value h.value same))
  expr-uses (Parens' a inner type at) g (i, x, is) = by (Parens' a inner type at) (Parens i type at) g is (fold_out-TypedExpr _ _ (Parens i type at)) (fold_out-TypedExpr _ _ (Parens' a inner type at)) (expr-uses inner i.value x)

  row-uses : {n : _} (row : Row_of-TypedExpr n) (fs : List TypedExpr) → AreBare row fs → map X fs ≡ map X (exprs_in _ row)
  row-uses end_of-TypedExpr fs is = ap (map X) is
  row-uses (more_of-TypedExpr e rest) fs (f, gs, x, are, is) = ap (map X) is ∙ (λ i. expr-uses e f x i ∷ row-uses rest gs are i)

zip-uses : {A B : Type 0} (R : A → B → Type 0) (f : A → Listed Use) (g : B → Listed Use) → ((x : A) (y : B) → R x y → g y ≡ f x) → (xs : List A) (ys : List B) → AllZip R xs ys → map g ys ≡ map f xs
zip-uses R f g each [] [] z = refl
zip-uses R f g each [] (y ∷ ys) z = absurd z
zip-uses R f g each (x ∷ xs) [] z = absurd z
zip-uses R f g each (x ∷ xs) (y ∷ ys) z = λ i. each x y z.0 i ∷ zip-uses R f g each xs ys z.1 i

-- ---- statements

abbrev left_of : Listed Use → Listed Use
left_of (a & b) = a
left_of _ = nothing

-- of one statement
abbrev U : TypedStmt → Listed Use
U s = left_of (stmts_uses (s ∷ []))

-- of one clause
abbrev C : TypedClause → Listed Use
C c = joined (map U (out-TypedClause c).stmts.items)

stmt-by : (s t u : TypedStmt) {l m : Listed Use} → u ≡ t → U t ≡ l → U s ≡ m → l ≡ m → U u ≡ U s
stmt-by s t u is p q h = ap U is ∙ (p ∙ (h ∙ sym q))

abbrev target_uses : UpdateTarget → Listed Use
target_uses (target.Local slot narrowed type) = nothing
target_uses (target.Variable m) = nothing
target_uses (target.Member own how container key type) = X container.value & X key.value

abbrev source_uses : Source → Listed Use
source_uses (Range own end from to) = X from.value & X to.value
source_uses (ListSource own list) = X list.value

target-uses : (t u : UpdateTarget) → IsBareTarget t u → target_uses u ≡ target_uses t
target-uses (target.Local slot narrowed type) u is = ap target_uses is
target-uses (target.Variable m) u is = ap target_uses is
target-uses (target.Member own how container key type) u (c, k, x, y, is) = ap target_uses is ∙ (λ i. expr-uses container.value c.value x i & expr-uses key.value k.value y i)

source-uses : (s r : Source) → IsBareSource s r → source_uses r ≡ source_uses s
source-uses (Range own end from to) r (f, t, x, y, is) = ap source_uses is ∙ (λ i. expr-uses from.value f.value x i & expr-uses to.value t.value y i)
source-uses (ListSource own list) r (l, x, is) = ap source_uses is ∙ expr-uses list.value l.value x

-- the statements and clauses of a layer
firsts : TypedStmt-F TypedStmt TypedClause → List TypedStmt
firsts (layer.If c f g at) = f.items
firsts (layer.While c b at) = b.items
firsts (layer.Foreach slot r b at) = b.items
firsts (layer.Block b at) = b.items
firsts _ = []

seconds : TypedStmt-F TypedStmt TypedClause → List TypedStmt
seconds (layer.If c f g at) = g.items
seconds _ = []

clauses_of : TypedStmt-F TypedStmt TypedClause → List TypedClause
clauses_of (layer.Match own e cs at) = cs.items
clauses_of _ = []

shown-uses : (shape : _) (row : _) (us : List TypedStmt) → map U us ≡ map U (stmts_in _ row) → map U us ≡ map U (shown shape row)
shown-uses shape row us h = h ∙ sym (ap (map U) (stmts-shown shape row))

-- however clauses are listed that is so
all-clauses : (D : TypedClause → Listed Use) → ((c : TypedClause) → D c ≡ C c) → (cs ds : List TypedClause) {l m : Listed Use} → l ≡ m → map C cs ≡ map C ds → (l & joined (map D cs)) ≡ (m & joined (map D ds))
all-clauses D is cs ds e h = λ i. e i & joined ((each cs ∙ (h ∙ sym (each ds))) i)
  where
    each : (xs : List TypedClause) → map D xs ≡ map C xs
    each [] = refl
    each (x ∷ xs) = λ i. is x i ∷ each xs i

mutual
  unfolding out-TypedStmt Carrier.out firsts seconds clauses_of

  stmt-uses : (s u : TypedStmt) → IsBareStmt s u → U u ≡ U s
  stmt-uses (Set slot value at) u (v, x, is) = stmt-by (Set slot value at) (Set slot v at) u is (fold_out-TypedStmt _ _ _ _ (Set slot v at)) (fold_out-TypedStmt _ _ _ _ (Set slot value at)) (expr-uses value.value v.value x)
  stmt-uses (Perform form operands at) u (fs, z, is) =
      stmt-by (Perform form operands at) (Perform form fs at) u is (fold_out-TypedStmt _ _ _ _ (Perform form fs at)) (fold_out-TypedStmt _ _ _ _ (Perform form operands at))
      (ap joined (zip-uses IsBare X X expr-uses operands.items fs.items z))
  stmt-uses (Update t op value at) u (r, v, x, y, is) =
      stmt-by (Update t op value at) (Update r op v at) u is (fold_out-TypedStmt _ _ _ _ (Update r op v at)) (fold_out-TypedStmt _ _ _ _ (Update t op value at)) (λ i. target-uses t r x i & expr-uses value.value v.value y i)
  stmt-uses (If' condition a first b second at) u (c, f, g, x, y, z, is) =
      stmt-by (If' condition a first b second at) (If c f g at) u is (fold_out-TypedStmt _ _ _ _ (If c f g at)) (fold_out-TypedStmt _ _ _ _ (If' condition a first b second at))
      (λ i. expr-uses condition.value c.value x i
      & joined ((ap (λ l. map U (firsts l)) (outs-If c f g at) ∙ shown-uses a first f.items (stmts-row-uses first f.items y)) i)
      & joined ((ap (λ l. map U (seconds l)) (outs-If c f g at) ∙ shown-uses b second g.items (stmts-row-uses second g.items z)) i))
  stmt-uses (While' condition a body at) u (c, b, x, y, is) =
      stmt-by (While' condition a body at) (While c b at) u is (fold_out-TypedStmt _ _ _ _ (While c b at)) (fold_out-TypedStmt _ _ _ _ (While' condition a body at))
      (λ i. expr-uses condition.value c.value x i & joined ((ap (λ l. map U (firsts l)) (outs-While c b at) ∙ shown-uses a body b.items (stmts-row-uses body b.items y)) i))
  stmt-uses (Foreach' slot source a body at) u (r, b, x, y, is) =
      stmt-by (Foreach' slot source a body at) (Foreach slot r b at) u is (fold_out-TypedStmt _ _ _ _ (Foreach slot r b at)) (fold_out-TypedStmt _ _ _ _ (Foreach' slot source a body at))
      (λ i. source-uses source r x i & joined ((ap (λ l. map U (firsts l)) (outs-Foreach slot r b at) ∙ shown-uses a body b.items (stmts-row-uses body b.items y)) i))
  stmt-uses (Match' own subject a clauses at) u (e, cs, x, y, is) =
      stmt-by (Match' own subject a clauses at) (Match own e cs at) u is (fold_out-TypedStmt _ _ _ _ (Match own e cs at)) (fold_out-TypedStmt _ _ _ _ (Match' own subject a clauses at))
      (all-clauses _ (λ c. fold_out-TypedClause _ _ _ _ c) (clauses_of (out-TypedStmt (Match own e cs at))) (shown_clauses a clauses) (expr-uses subject.value e.value x)
      (ap (λ l. map C (clauses_of l)) (outs-Match own e cs at) ∙ (clauses-row-uses clauses cs.items y ∙ sym (ap (map C) (clauses-shown a clauses)))))
  stmt-uses (Return None at) u is = ap U is
  stmt-uses (Return (Some e) at) u (v, x, is) =
      stmt-by (Return (Some e) at) (Return (Some v) at) u is (fold_out-TypedStmt _ _ _ _ (Return (Some v) at)) (fold_out-TypedStmt _ _ _ _ (Return (Some e) at)) (expr-uses e.value v.value x)
  stmt-uses (BlockStmt a stmts at) u (b, x, is) =
      stmt-by (BlockStmt a stmts at) (BlockOf b at) u is (fold_out-TypedStmt _ _ _ _ (BlockOf b at)) (fold_out-TypedStmt _ _ _ _ (BlockStmt a stmts at))
      (ap joined (ap (λ l. map U (firsts l)) (outs-Block b at) ∙ shown-uses a stmts b.items (stmts-row-uses stmts b.items x)))
  stmt-uses (Break at) u is = ap U is
  stmt-uses (Continue at) u is = ap U is

  stmts-row-uses : {n : _} (row : Row_of-TypedStmt n) (us : List TypedStmt) → AreBareStmts row us → map U us ≡ map U (stmts_in _ row)
  stmts-row-uses end_of-TypedStmt us is = ap (map U) is
  stmts-row-uses (more_of-TypedStmt s rest) us (u, vs, x, are, is) = ap (map U) is ∙ (λ i. stmt-uses s u x i ∷ stmts-row-uses rest vs are i)

  clauses-row-uses : {n : _} (row : Row_of-TypedClause n) (ds : List TypedClause) → AreBareClauses row ds → map C ds ≡ map C (clauses_in _ row)
  clauses-row-uses end_of-TypedClause ds is = ap (map C) is
  clauses-row-uses (more_of-TypedClause patterns a stmts at rest) ds (d, ls, ps, x, are, is) =
      ap (map C) is ∙ (λ i. joined (shown-uses a stmts (out-TypedClause d).stmts.items (stmts-row-uses stmts (out-TypedClause d).stmts.items x) i) ∷ clauses-row-uses rest ls are i)

all-uses : (ss us : List TypedStmt) → AllZip IsBareStmt ss us → stmts_uses us ≡ stmts_uses ss
all-uses ss us z = ap joined (zip-uses IsBareStmt U U stmt-uses ss us z)

-- ---- ends

-- a statement that can't be done uses nothing
never-uses : (s : TypedStmt) (c : Box TypedExpr) (f g : Vec TypedStmt Global) (type : Shared) (at at' : Place) → out-TypedStmt s ≡ layer.If c f g at → c.value ≡ Implied constant.Nil type at' → f.items ≡ [] → g.items ≡ [] → members (U s) ≡ []
unfolding out-TypedStmt out-TypedExpr Carrier.out
never-uses (If' condition a first b second x) c f g type at at' e n k l =
    let first-none = ap (λ y. firsts' y) e ∙ k in
    let second-none = ap (λ y. seconds' y) e ∙ l in
    let nil = ap (λ y. (conditions c y).value) e ∙ n in
    ap members (fold_out-TypedStmt _ _ _ _ (If' condition a first b second x))
    ∙ ((λ i. members (X (nil i) & joined (map U (first-none i)) & joined (map U (second-none i)))) ∙ ap (λ y. members y ++ []) (fold_out-TypedExpr _ _ (Implied constant.Nil type at')))
  where
    firsts' : TypedStmt-F TypedStmt TypedClause → List TypedStmt
    firsts' (layer.If x y z w) = y.items
    firsts' _ = f.items

    seconds' : TypedStmt-F TypedStmt TypedClause → List TypedStmt
    seconds' (layer.If x y z w) = z.items
    seconds' _ = g.items

    conditions : Box TypedExpr → layer.TypedStmt-F TypedStmt TypedClause → Box TypedExpr
    conditions d (layer.If x y z w) = x
    conditions d _ = d
never-uses (Set slot value x) c f g type at at' e n k l = absurd (let bad : ⊥ = cc in bad)
never-uses (Perform form operands x) c f g type at at' e n k l = absurd (let bad : ⊥ = cc in bad)
never-uses (Update t op value x) c f g type at at' e n k l = absurd (let bad : ⊥ = cc in bad)
never-uses (While' condition a body x) c f g type at at' e n k l = absurd (let bad : ⊥ = cc in bad)
never-uses (Foreach' slot source a body x) c f g type at at' e n k l = absurd (let bad : ⊥ = cc in bad)
never-uses (Match' own subject a cs x) c f g type at at' e n k l = absurd (let bad : ⊥ = cc in bad)
never-uses (Return value x) c f g type at at' e n k l = absurd (let bad : ⊥ = cc in bad)
never-uses (BlockStmt a ss x) c f g type at at' e n k l = absurd (let bad : ⊥ = cc in bad)
never-uses (Break x) c f g type at at' e n k l = absurd (let bad : ⊥ = cc in bad)
never-uses (Continue x) c f g type at at' e n k l = absurd (let bad : ⊥ = cc in bad)

end-uses : (ends : Bool) (end : List TypedStmt) → IsEnd ends end → members (stmts_uses end) ≡ []
end-uses true end is = ap (λ ss. members (stmts_uses ss)) is
end-uses false end (s, is, never) =
    ap (λ ss. members (stmts_uses ss)) is
    ∙ ap (λ l. l ++ []) (never-uses s never.condition never.first never.second never.type never.at never.at never.is never.nil never.nothing never.as_well)

append-uses : (ss us : List TypedStmt) → members (stmts_uses (ss ++ us)) ≡ members (stmts_uses ss) ++ members (stmts_uses us)
append-uses [] us = refl
append-uses (s ∷ ss) us = ap (λ l. members (U s) ++ l) (append-uses ss us) ∙ sym (append_assoc (members (U s)) (members (stmts_uses ss)) (members (stmts_uses us)))

ended-uses : (ends : Bool) (ss us : List TypedStmt) → AreDeclared ends ss us → members (stmts_uses us) ≡ members (stmts_uses ss)
ended-uses ends ss us (vs, end, z, last, is) =
    ap (λ x. members (stmts_uses x)) is ∙ (append-uses vs end ∙ ((λ i. members (all-uses ss vs z i) ++ end-uses ends end last i) ∙ append-nil (members (stmts_uses ss))))

body-same : {b c : UnitBody} → IsBody b c → members (body_uses c) ≡ members (body_uses b)
body-same (of_function (BlockBody initial workers rest ends close) (BlockBody initial' workers' rest' ends' close') (first, crew, last, e)) =
    λ i. members (all-uses initial.items initial'.items first i) ++ ended-uses ends rest.items rest'.items last i
body-same (of_function (ValueBody value) (ValueBody value') is) = ap members (expr-uses value.value value'.value is)
body-same (of_function (BlockBody initial workers rest ends close) (ValueBody value) is) = absurd is
body-same (of_function (ValueBody value) (BlockBody initial workers rest ends close) is) = absurd is
body-same (of_worker ss us ends is) = ended-uses ends ss us is
body-same (of_anonymous e f is) = ap members (expr-uses e f is)
body-same (of_initialiser vs ws z) = ap (λ l. members (joined l)) (zip-uses IsDeclaredInitial (λ v. X v.value.value) (λ v. X v.value.value) (λ x y r. expr-uses x.value.value y.value.value r.1) vs ws z)

zip-same : (us vs : List UnitTree) → AllZip IsUnit us vs → members (joined (map (λ u. body_uses u.body) vs)) ≡ members (joined (map (λ u. body_uses u.body) us))
zip-same [] [] z = refl
zip-same [] (v ∷ vs) z = absurd z
zip-same (u ∷ us) [] z = absurd z
zip-same (u ∷ us) (v ∷ vs) z = λ i. body-same z.0.body i ++ zip-same us vs z.1 i

-- ---- atoms

any-zip : {A B : Type 0} {P : A → Type 0} {Q : B → Type 0} (R : A → B → Type 0) → ((x : A) (y : B) → R x y → P x → Q y) → (xs : List A) (ys : List B) → AllZip R xs ys → Any P xs → Any Q ys
any-zip R f [] ys z (k, x, lt, e, h) = absurd (omega (arith, lt))
any-zip R f (x ∷ xs) [] z h = absurd z
any-zip {P = P} R f (x ∷ xs) (y ∷ ys) z (zero, w, lt, e, h) = (zero, y, omega arith, refl, f x y z.0 (subst P (sym e) h))
any-zip R f (x ∷ xs) (y ∷ ys) z (suc k, w, lt, e, h) =
    let (j, v, l, d, g) = any-zip R f xs ys z.1 (k, w, omega (arith, lt), e, h) in (suc j, v, omega (arith, l), d, g)

any-each : {A : Type 0} {P Q : A → Type 0} → ((x : A) → P x → Q x) → (xs : List A) → Any P xs → Any Q xs
any-each f xs (k, x, lt, e, h) = (k, x, lt, e, f x h)

flipped : {A B : Type 0} (R : A → B → Type 0) (xs : List A) (ys : List B) → AllZip R xs ys → AllZip (λ y x. R x y) ys xs
flipped R [] [] z = tt
flipped R [] (y ∷ ys) z = absurd z
flipped R (x ∷ xs) [] z = absurd z
flipped R (x ∷ xs) (y ∷ ys) z = (z.0, flipped R xs ys z.1)

abbrev IsOwn : ℕ → UnitTree → Type 0
IsOwn a u = (a ≡ u.unit.arrow) ⊎ (a ≡ u.unit.future)

-- two packages with the same uses, whose units have the same of their own
module _ (p q : TypedPackage) (uses : uses_of p ≡ uses_of q) (R : UnitTree → UnitTree → Type 0) (units : AllZip R (units_of p) (units_of q)) (own : (u v : UnitTree) → R u v → v.unit ≡ u.unit) (launch : launch_of p ≡ launch_of q) (at : (n : ℕ) → Both R (unit_at p n) (unit_at q n)) where
  own-of : (a : ℕ) (u v : Option UnitTree) → Both R u v → IsSomeAnd u (IsOwn a) → IsSomeAnd v (IsOwn a)
  own-of a (Some u) (Some v) r (inl e) = inl (e ∙ ap (λ x. x.arrow) (sym (own u v r)))
  own-of a (Some u) (Some v) r (inr e) = inr (e ∙ ap (λ x. x.future) (sym (own u v r)))
  own-of a (Some u) None r h = absurd r
  own-of a None v r h = absurd h

  named-along : (a : ℕ) → IsNamed p a → IsNamed q a
  named-along a (made_so h) = made_so (subst (λ l. Any (λ x. Contains (atoms_made x) a) l) uses h)
  named-along a (rest_so h) = rest_so (any-zip R (λ u v r e. ap (λ x. x.rest) (own u v r) ∙ e) (units_of p) (units_of q) units h)
  named-along a (words_so h) = words_so (ap (λ l. l.words) (sym launch) ∙ h)
  named-along a (valued_so h) =
      valued_so (subst (λ l. Any (λ x. Any (λ n. IsSomeAnd (unit_at q n) (IsOwn a)) (units_valued x)) l) uses
      (any-each (λ x. any-each (λ n. own-of a (unit_at p n) (unit_at q n) (at n)) (units_valued x)) (uses_of p) h))

  inherent-along : (atoms : List AtomDef) (a : ℕ) → IsInherentIn p atoms a → IsInherentIn q atoms a
  inherent-along atoms _ (named_so a h) = named_so a (named-along a h)
  inherent-along atoms _ (fills_so a b h k) = fills_so a b (inherent-along atoms a h) k

turned : (R : UnitTree → UnitTree → Type 0) (u v : Option UnitTree) → Both R u v → Both (λ y x. R x y) v u
turned R (Some u) (Some v) r = r
turned R (Some u) None r = r
turned R None (Some v) r = r
turned R None None r = r

module _ (p q : TypedPackage) (is : IsDeclared p q) where
  uses-same : uses_of p ≡ uses_of q
  uses-same = sym (zip-same (units_of p) (units_of q) (units-zip p q is))

  inherent-there : (atoms : List AtomDef) (a : ℕ) → IsInherentIn p atoms a → IsInherentIn q atoms a
  inherent-there = inherent-along p q uses-same IsUnit (units-zip p q is) (λ u v r. r.unit) (launch-same p q is) (unit-zip p q is)

  inherent-back : (atoms : List AtomDef) (a : ℕ) → IsInherentIn q atoms a → IsInherentIn p atoms a
  inherent-back =
      inherent-along q p (sym uses-same) (λ v u. IsUnit u v) (flipped IsUnit (units_of p) (units_of q) (units-zip p q is)) (λ v u r. sym r.unit) (sym (launch-same p q is))
      (λ n. turned IsUnit (unit_at p n) (unit_at q n) (unit-zip p q is n))

-- ---- what may come of the code

pub declared-same-is-allowed : (natives : Answers) → DeclaredSameIsAllowed natives
declared-same-is-allowed natives atoms p q code is lowered inherent words input order ticks o texts =
    let code-same = same-is-allowed natives atoms q code lowered inherent (λ fillers knows. declared-narrows-well natives atoms fillers p q code is lowered) words input order ticks o texts in (
      (λ (n, (fillers, knows, allowed)).
          let r = (declared-does-the-same natives atoms fillers p q is words input order ticks o texts).0 (n, allowed) in
          code-same.0 (r.0, (fillers, (λ a h. knows a (inherent-back p q is atoms a h)), r.1))),
      (λ x.
          let (n, (fillers, knows, allowed)) = code-same.1 x in
          let r = (declared-does-the-same natives atoms fillers p q is words input order ticks o texts).1 (n, allowed) in
          (r.0, (fillers, (λ a h. knows a (inherent-there p q is atoms a h)), r.1))),
    )
