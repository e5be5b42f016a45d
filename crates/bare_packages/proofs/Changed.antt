-- A statement whose parts read variables as declared does so itself, and so do lists of them.
use Rattle.std.proofs.Common.{◌≡◌, ◌≢◌, ◌++◌, ◌+◌, ◌<◌, ◌≤◌, ◌∙◌, arith, get_or-set_other, set, ℕ, List, [], ◌∷◌, get_or, length, take, refl, sym, subst}
use Rattle.std.proofs.lemmas.List.{length-set, take_more, take_more_set}
use Rattle.std.proofs.lemmas.List.Elements.{AllZip-push}
use Rattle.std.specs.Prelude.{Option, Some, None}
use Rattle.std.specs.Global.{Box, Global}
use Rattle.std.specs.List.{AllZip}
use Rattle.std.specs.declared.vec.Vec.{Vec}
use Rattle.bal_base.specs.declared.place.Place.{Place}
use Rattle.typed_tree.specs.declared.expr.TypedExpr.{TypedExpr}
use Rattle.typed_tree.specs.declared.form.Operator.{Operator}
use Rattle.typed_tree.specs.declared.stmt.PerformForm.{PerformForm}
use Rattle.typed_tree.specs.declared.stmt.Source.{Source}
use Rattle.typed_tree.specs.declared.stmt.TypedClause.{TypedClause, out-TypedClause}
use Rattle.typed_tree.specs.declared.stmt.TypedStmt.{TypedStmt, Set, Perform, Update, If, While, Foreach, Match, Return, Block as BlockStmt, Row_of-TypedStmt, end_of-TypedStmt, more_of-TypedStmt, items-the_row-TypedStmt as stmts_in, items_shown-the_row-TypedStmt-0 as stmts-shown, items_hidden-the_row-TypedStmt-0 as stmts-hidden, Row_of-TypedClause, end_of-TypedClause, more_of-TypedClause, items-the_row-TypedClause as clauses_in, items_hidden-the_row-TypedClause-1 as clauses-hidden}
use Rattle.typed_tree.specs.declared.stmt.TypedStmt.TheBlock.{hidden-the_row-TypedClause-1, hidden-the_row-TypedStmt-0}
use Rattle.typed_tree.specs.declared.stmt.UpdateTarget.{UpdateTarget}
use Rattle.declared_reads.specs.Declared.{AreBareClauses, AreBareStmts, IsBare, IsBareSource, IsBareStmt, IsBareTarget}
use Rattle.bare_packages.specs.Parts.{IsBareClause, IsBareResult}

-- lists as rows
pub stmts-row : {n : _} (row : Row_of-TypedStmt n) (us : List TypedStmt) → AllZip IsBareStmt (stmts_in _ row) us → AreBareStmts row us
stmts-row end_of-TypedStmt [] z = refl
stmts-row end_of-TypedStmt (u ∷ us) z = absurd z
stmts-row (more_of-TypedStmt s rest) [] z = absurd z
stmts-row (more_of-TypedStmt s rest) (u ∷ us) z = (u, us, z.0, stmts-row rest us z.1, refl)

pub stmts-in : (ss us : Vec TypedStmt Global) → AllZip IsBareStmt ss.items us.items → AreBareStmts (hidden-the_row-TypedStmt-0 ss) us.items
stmts-in ss us z = stmts-row (hidden-the_row-TypedStmt-0 ss) us.items (subst (λ x. AllZip IsBareStmt x us.items) (sym (stmts-hidden ss)) z)

pub clauses-row : {n : _} (row : Row_of-TypedClause n) (ds : List TypedClause) → AllZip IsBareClause (clauses_in _ row) ds → AreBareClauses row ds
clauses-row end_of-TypedClause [] z = refl
clauses-row end_of-TypedClause (d ∷ ds) z = absurd z
clauses-row (more_of-TypedClause patterns shape stmts at rest) [] z = absurd z
clauses-row (more_of-TypedClause patterns shape stmts at rest) (d ∷ ds) z =
    (d, ds, z.0.0, stmts-row stmts (out-TypedClause d).stmts.items (subst (λ x. AllZip IsBareStmt x (out-TypedClause d).stmts.items) (stmts-shown shape stmts) z.0.1), clauses-row rest ds z.1, refl)

pub clauses-in : (cs ds : Vec TypedClause Global) → AllZip IsBareClause cs.items ds.items → AreBareClauses (hidden-the_row-TypedClause-1 cs) ds.items
clauses-in cs ds z = clauses-row (hidden-the_row-TypedClause-1 cs) ds.items (subst (λ x. AllZip IsBareClause x ds.items) (sym (clauses-hidden cs)) z)

-- each construct by its fields before and behind
pub set-bare : (s : TypedStmt) (slot n : ℕ) (a b : Box TypedExpr) (at p : Place) → s ≡ Set slot a at → n ≡ slot → p ≡ at → IsBare a.value b.value → IsBareStmt s (Set n b p)
set-bare s slot n a b at p is so there x = subst (λ z. IsBareStmt z (Set n b p)) (sym is) (b, x, (λ i. Set (so i) b (there i)))

pub perform-bare : (s : TypedStmt) (form g : PerformForm) (es fs : Vec TypedExpr Global) (at p : Place) → s ≡ Perform form es at → g ≡ form → p ≡ at → AllZip IsBare es.items fs.items → IsBareStmt s (Perform g fs p)
perform-bare s form g es fs at p is so there x = subst (λ z. IsBareStmt z (Perform g fs p)) (sym is) (fs, x, (λ i. Perform (so i) fs (there i)))

pub update-bare : (s : TypedStmt) (t u : UpdateTarget) (op o : Operator) (a b : Box TypedExpr) (at p : Place) → s ≡ Update t op a at → o ≡ op → p ≡ at → IsBareTarget t u → IsBare a.value b.value → IsBareStmt s (Update u o b p)
update-bare s t u op o a b at p is so there x y = subst (λ z. IsBareStmt z (Update u o b p)) (sym is) (u, b, x, y, (λ i. Update u (so i) b (there i)))

pub if-bare : (s : TypedStmt) (a b : Box TypedExpr) (f g h k : Vec TypedStmt Global) (at p : Place) → s ≡ If a f g at → p ≡ at → IsBare a.value b.value → AllZip IsBareStmt f.items h.items → AllZip IsBareStmt g.items k.items → IsBareStmt s (If b h k p)
if-bare s a b f g h k at p is there x y z = subst (λ w. IsBareStmt w (If b h k p)) (sym is) (b, h, k, x, stmts-in f h y, stmts-in g k z, (λ i. If b h k (there i)))

pub while-bare : (s : TypedStmt) (a b : Box TypedExpr) (f g : Vec TypedStmt Global) (at p : Place) → s ≡ While a f at → p ≡ at → IsBare a.value b.value → AllZip IsBareStmt f.items g.items → IsBareStmt s (While b g p)
while-bare s a b f g at p is there x y = subst (λ w. IsBareStmt w (While b g p)) (sym is) (b, g, x, stmts-in f g y, (λ i. While b g (there i)))

pub foreach-bare : (s : TypedStmt) (slot n : ℕ) (r q : Source) (f g : Vec TypedStmt Global) (at p : Place) → s ≡ Foreach slot r f at → n ≡ slot → p ≡ at → IsBareSource r q → AllZip IsBareStmt f.items g.items → IsBareStmt s (Foreach n q g p)
foreach-bare s slot n r q f g at p is so there x y = subst (λ w. IsBareStmt w (Foreach n q g p)) (sym is) (q, g, x, stmts-in f g y, (λ i. Foreach (so i) q g (there i)))

pub match-bare : (s : TypedStmt) (own n : ℕ) (a b : Box TypedExpr) (cs ds : Vec TypedClause Global) (at p : Place) → s ≡ Match own a cs at → n ≡ own → p ≡ at → IsBare a.value b.value → AllZip IsBareClause cs.items ds.items → IsBareStmt s (Match n b ds p)
match-bare s own n a b cs ds at p is so there x y = subst (λ w. IsBareStmt w (Match n b ds p)) (sym is) (b, ds, x, clauses-in cs ds y, (λ i. Match (so i) b ds (there i)))

pub return-bare : (s : TypedStmt) (v w : Option (Box TypedExpr)) (at p : Place) → s ≡ Return v at → p ≡ at → IsBareResult v w → IsBareStmt s (Return w p)
return-bare s None w at p is there x = subst (λ z. IsBareStmt z (Return w p)) (sym is) (λ i. Return (x i) (there i))
return-bare s (Some v) w at p is there (u, x, same) = subst (λ z. IsBareStmt z (Return w p)) (sym is) (u, x, (λ i. Return (same i) (there i)))

pub block-bare : (s : TypedStmt) (f g : Vec TypedStmt Global) (at p : Place) → s ≡ BlockStmt f at → p ≡ at → AllZip IsBareStmt f.items g.items → IsBareStmt s (BlockStmt g p)
block-bare s f g at p is there y = subst (λ w. IsBareStmt w (BlockStmt g p)) (sym is) (g, stmts-in f g y, (λ i. BlockStmt g (there i)))

-- one more member of a list is changed
pub change-more : {X : Type 0} (R : X → X → Type 0) (xs ys : List X) (i : ℕ) (e n : X) → i < length ys → length ys ≡ length xs → ((k : ℕ) (d : X) → i ≤ k → get_or ys k d ≡ get_or xs k d) → AllZip R (take i xs) (take i ys) → R (get_or ys i e) n →
    ((length (set ys i n) ≡ length xs) × ((k : ℕ) (d : X) → i + 1 ≤ k → get_or (set ys i n) k d ≡ get_or xs k d)) × AllZip R (take (i + 1) xs) (take (i + 1) (set ys i n))
change-more R xs ys i e n lt long same are bare = (
  (length-set ys i n ∙ long, (λ k d le. let ne : k ≢ i = omega (arith, le) in rw get_or-set_other (same k d (omega (arith, le))))),
  subst (λ zs. AllZip R (take (i + 1) xs) zs) (sym (take_more_set ys i n lt))
      (subst (λ zs. AllZip R zs (take i ys ++ n ∷ [])) (sym (take_more xs i e (omega (arith, lt, long))))
      (AllZip-push R (take i xs) (take i ys) (get_or xs i e) n are (subst (λ z. R z n) (same i e (omega arith)) bare))),
)
