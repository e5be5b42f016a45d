-- A construct whose parts read variables as declared does so itself.
use Rattle.std.proofs.Common.{◌≡◌, ◌≢◌, ◌++◌, ◌+◌, ◌<◌, ◌≤◌, ◌∙◌, arith, get_or-set_other, set, ℕ, List, [], ◌∷◌, Bool, get_or, length, take, refl, sym, subst}
use Rattle.std.proofs.lemmas.List.{length-set, take_more, take_more_set}
use Rattle.std.proofs.lemmas.List.Elements.{AllZip-push}
use Rattle.std.specs.Prelude.{Result, Ok, Err, OnOk}
use Rattle.std.specs.Global.{Box, Global}
use Rattle.std.specs.List.{AllZip}
use Rattle.std.specs.declared.vec.Vec.{Vec}
use Rattle.bal_base.specs.declared.place.Place.{Place}
use Rattle.typed_tree.specs.declared.expr.AnonymousFunction.{AnonymousFunction}
use Rattle.typed_tree.specs.declared.expr.TypedExpr.{TypedExpr, Strict, And, Or, Conditional, Elvis, Check, Trap, Function, Parens, Row_of-TypedExpr, end_of-TypedExpr, more_of-TypedExpr, items-the_row-TypedExpr as exprs_in, items_hidden-the_row-TypedExpr-0 as exprs-hidden}
use Rattle.typed_tree.specs.declared.expr.TypedExpr.TheBlock.{hidden-the_row-TypedExpr-0}
use Rattle.typed_tree.specs.declared.form.StrictForm.{StrictForm}
use Rattle.typed_tree.specs.SharedTypes.{Shared, sem_of}
use Rattle.declared_reads.specs.Declared.{AreBare, IsAnything, IsBare, IsBareFunction}

-- lists as rows
zip-row : {n : _} (row : Row_of-TypedExpr n) (fs : List TypedExpr) → AllZip IsBare (exprs_in _ row) fs → AreBare row fs
zip-row end_of-TypedExpr [] z = refl
zip-row end_of-TypedExpr (f ∷ fs) z = absurd z
zip-row (more_of-TypedExpr e rest) [] z = absurd z
zip-row (more_of-TypedExpr e rest) (f ∷ fs) z = (f, fs, z.0, zip-row rest fs z.1, refl)

-- each construct by its fields before and behind
pub strict-bare : (e : TypedExpr) (form g : StrictForm) (es fs : Vec TypedExpr Global) (type t : Shared) (at p : Place) → e ≡ Strict form es type at → g ≡ form → t ≡ type → p ≡ at → AllZip IsBare es.items fs.items → IsBare e (Strict g fs t p)
strict-bare e form g es fs type t at p is so same there z =
    subst (λ y. IsBare y (Strict g fs t p)) (sym is)
    (fs, zip-row (hidden-the_row-TypedExpr-0 es) fs.items (subst (λ x. AllZip IsBare x fs.items) (sym (exprs-hidden es)) z), (λ i. Strict (so i) fs (same i) (there i)))

pub and-bare : (e : TypedExpr) (a b c d : Box TypedExpr) (type t : Shared) (at p : Place) → e ≡ And a b type at → t ≡ type → p ≡ at → IsBare a.value c.value → IsBare b.value d.value → IsBare e (And c d t p)
and-bare e a b c d type t at p is same there x y = subst (λ z. IsBare z (And c d t p)) (sym is) (c, d, x, y, (λ i. And c d (same i) (there i)))

pub or-bare : (e : TypedExpr) (a b c d : Box TypedExpr) (type t : Shared) (at p : Place) → e ≡ Or a b type at → t ≡ type → p ≡ at → IsBare a.value c.value → IsBare b.value d.value → IsBare e (Or c d t p)
or-bare e a b c d type t at p is same there x y = subst (λ z. IsBare z (Or c d t p)) (sym is) (c, d, x, y, (λ i. Or c d (same i) (there i)))

pub conditional-bare : (e : TypedExpr) (a b c x y z : Box TypedExpr) (type t : Shared) (at p : Place) → e ≡ Conditional a b c type at → t ≡ type → p ≡ at → IsBare a.value x.value → IsBare b.value y.value → IsBare c.value z.value → IsBare e (Conditional x y z t p)
conditional-bare e a b c x y z type t at p is same there k l m = subst (λ w. IsBare w (Conditional x y z t p)) (sym is) (x, y, z, k, l, m, (λ i. Conditional x y z (same i) (there i)))

pub elvis-bare : (e : TypedExpr) (own n : ℕ) (a b c d : Box TypedExpr) (type t : Shared) (at p : Place) → e ≡ Elvis own a b type at → n ≡ own → IsAnything (sem_of t) → p ≡ at → IsBare a.value c.value → IsBare b.value d.value → IsBare e (Elvis n c d t p)
elvis-bare e own n a b c d type t at p is so any there x y = subst (λ z. IsBare z (Elvis n c d t p)) (sym is) (c, d, t, x, y, any, (λ i. Elvis (so i) c d t (there i)))

pub check-bare : (e : TypedExpr) (panics b : Bool) (own n : ℕ) (a c : Box TypedExpr) (type t : Shared) (at p : Place) → e ≡ Check panics own a type at → b ≡ panics → n ≡ own → IsAnything (sem_of t) → p ≡ at → IsBare a.value c.value → IsBare e (Check b n c t p)
check-bare e panics b own n a c type t at p is how so any there x = subst (λ z. IsBare z (Check b n c t p)) (sym is) (c, t, x, any, (λ i. Check (how i) (so i) c t (there i)))

pub trap-bare : (e : TypedExpr) (a c : Box TypedExpr) (type t : Shared) (at p : Place) → e ≡ Trap a type at → t ≡ type → p ≡ at → IsBare a.value c.value → IsBare e (Trap c t p)
trap-bare e a c type t at p is same there x = subst (λ z. IsBare z (Trap c t p)) (sym is) (c, x, (λ i. Trap c (same i) (there i)))

pub parens-bare : (e : TypedExpr) (a c : Box TypedExpr) (type t : Shared) (at p : Place) → e ≡ Parens a type at → t ≡ type → p ≡ at → IsBare a.value c.value → IsBare e (Parens c t p)
parens-bare e a c type t at p is same there x = subst (λ z. IsBare z (Parens c t p)) (sym is) (c, x, (λ i. Parens c (same i) (there i)))

pub function-bare : (e : TypedExpr) (f g : Box AnonymousFunction) (a c : Box TypedExpr) (type t : Shared) (at p : Place) → e ≡ Function f a type at → t ≡ type → p ≡ at → IsBareFunction f.value g.value → IsBare a.value c.value → IsBare e (Function g c t p)
function-bare e f g a c type t at p is same there fun x = subst (λ z. IsBare z (Function g c t p)) (sym is) (g, c, fun, x, (λ i. Function g c (same i) (there i)))

pub ok-one : {T E : Type 0} (r : Result T E) {P R : Type 0} → (P → R) → OnOk r P → OnOk r R
ok-one (Ok x) f p = f p
ok-one (Err x) f p = tt

pub zip-more : {X : Type 0} (R : X → X → Type 0) (xs ys : List X) (i : ℕ) (d y : X) → i < length xs → d ≡ get_or xs i d → AllZip R (take i xs) ys → R d y → AllZip R (take (i + 1) xs) (ys ++ y ∷ [])
zip-more R xs ys i d y lt is are one =
    subst (λ zs. AllZip R zs (ys ++ y ∷ [])) (sym (take_more xs i d lt)) (AllZip-push R (take i xs) ys (get_or xs i d) y are (subst (λ z. R z y) is one))

pub loop-more : (xs ys : List TypedExpr) (i : ℕ) (e n : TypedExpr) → i < length ys → length ys ≡ length xs → ((k : ℕ) (d : TypedExpr) → i ≤ k → get_or ys k d ≡ get_or xs k d) → AllZip IsBare (take i xs) (take i ys) → IsBare (get_or ys i e) n →
    ((length (set ys i n) ≡ length xs) × ((k : ℕ) (d : TypedExpr) → i + 1 ≤ k → get_or (set ys i n) k d ≡ get_or xs k d)) × AllZip IsBare (take (i + 1) xs) (take (i + 1) (set ys i n))
loop-more xs ys i e n lt long same are bare = (
  (length-set ys i n ∙ long, (λ k d le. let ne : k ≢ i = omega (arith, le) in rw get_or-set_other (same k d (omega (arith, le))))),
  subst (λ zs. AllZip IsBare (take (i + 1) xs) zs) (sym (take_more_set ys i n lt))
      (subst (λ zs. AllZip IsBare zs (take i ys ++ n ∷ [])) (sym (take_more xs i e (omega (arith, lt, long))))
      (AllZip-push IsBare (take i xs) (take i ys) (get_or xs i e) n are (subst (λ z. IsBare z n) (same i e (omega arith)) bare))),
)
