-- The units in a part that was made are those in the parts that it was made of.
use Rattle.std.proofs.Common.{◌≡◌, ◌∙◌, ◌++◌, ℕ, Bool, List, [], ◌∷◌, append-nil, append_assoc, refl, sym, ap}
use Rattle.std.specs.Global.{Box}
use Rattle.bal_base.specs.declared.place.Place.{Place}
use Rattle.operations.specs.declared.operation.Constant.{Constant}
use Rattle.typed_tree.specs.declared.expr.AnonymousFunction.{AnonymousFunction}
use Rattle.typed_tree.specs.declared.expr.TypedExpr.{TypedExpr, TypedExpr-F, map-TypedExpr, out-TypedExpr, para-TypedExpr}
use Rattle.typed_tree.specs.declared.expr.TypedExpr.TheOpen as layer
use Rattle.typed_tree.specs.declared.form.StrictForm.{StrictForm}
use Rattle.typed_tree.specs.Listed.{joined, members}
use Rattle.typed_tree.specs.SharedTypes.{Shared}
use Rattle.typed_tree.specs.Views.{IsAnd, IsCheck, IsConditional, IsElvis, IsFunctionOf, IsImplied, IsLocal, IsOr, IsParens, IsStrict, IsTrap}
use Rattle.typed_tree.proofs.SeenParts.{para_out, seconds}
use Rattle.tree_promises.specs.Placed.{Placed, anonymous, expr_placed}
use Rattle.typed_needs.specs.Between.{units_in}

para-at : (A : Type 0) (step : TypedExpr-F (TypedExpr × A) → A) (e : TypedExpr) (x : TypedExpr-F TypedExpr) → out-TypedExpr e ≡ x
    → para-TypedExpr A step e ≡ step (map-TypedExpr TypedExpr (TypedExpr × A) (λ t. (t, para-TypedExpr A step t)) x)
para-at A step e x o = para_out A step e ∙ ap (λ y. step (map-TypedExpr TypedExpr (TypedExpr × A) (λ t. (t, para-TypedExpr A step t)) y)) o

abbrev pub units_of : TypedExpr → List Placed
units_of e = members (expr_placed e)

pub units-append : (xs ys : List TypedExpr) → units_in (xs ++ ys) ≡ units_in xs ++ units_in ys
units-append [] ys = refl
units-append (x ∷ xs) ys = ap (λ l. units_of x ++ l) (units-append xs ys) ∙ sym (append_assoc (units_of x) (units_in xs) (units_in ys))

pub one-units : (e : TypedExpr) → units_in (e ∷ []) ≡ units_of e
one-units e = append-nil (units_of e)

two-units : (a b : TypedExpr) → units_of a ++ units_of b ≡ units_in (a ∷ b ∷ [])
two-units a b = ap (λ l. units_of a ++ l) (sym (one-units b))

-- a part made of these
abbrev Made : TypedExpr → List TypedExpr → Type 0
Made e parts = units_of e ≡ units_in parts

boxed : (b : Box TypedExpr) (e : TypedExpr) → b.value ≡ e → units_of b.value ≡ units_of e
boxed b e is = ap (λ (x : TypedExpr). units_of x) is

pub strict-units : {form : StrictForm} {es : List TypedExpr} {t : Shared} {at : Place} (e : TypedExpr) → IsStrict form es t at e → Made e es
strict-units {form} {es} {t} {at} e (v, o, is) =
    ap members (para-at _ _ e (layer.Strict form v t at) o) ∙ ap (λ l. members (joined l)) (seconds expr_placed v.items) ∙ ap (λ (xs : List TypedExpr). units_in xs) is

pub implied-units : {c : Constant} {t : Shared} {at : Place} (e : TypedExpr) → IsImplied c t at e → Made e []
implied-units {c} {t} {at} e o = ap members (para-at _ _ e (layer.Implied c t at) o)

pub local-units : {slot : ℕ} {narrowed : Bool} {t : Shared} {at : Place} (e : TypedExpr) → IsLocal slot narrowed t at e → Made e []
local-units {slot} {narrowed} {t} {at} e o = ap members (para-at _ _ e (layer.Local slot narrowed t at) o)

pub and-units : {a b : TypedExpr} {t : Shared} {at : Place} (e : TypedExpr) → IsAnd a b t at e → Made e (a ∷ b ∷ [])
and-units {a} {b} {t} {at} e (l, r, o, el, er) =
    ap members (para-at _ _ e (layer.And l r t at) o) ∙ ap (λ x. x ++ units_of r.value) (boxed l a el) ∙ ap (λ x. units_of a ++ x) (boxed r b er) ∙ two-units a b

pub or-units : {a b : TypedExpr} {t : Shared} {at : Place} (e : TypedExpr) → IsOr a b t at e → Made e (a ∷ b ∷ [])
or-units {a} {b} {t} {at} e (l, r, o, el, er) =
    ap members (para-at _ _ e (layer.Or l r t at) o) ∙ ap (λ x. x ++ units_of r.value) (boxed l a el) ∙ ap (λ x. units_of a ++ x) (boxed r b er) ∙ two-units a b

pub elvis-units : {own : ℕ} {a b : TypedExpr} {t : Shared} {at : Place} (e : TypedExpr) → IsElvis own a b t at e → Made e (a ∷ b ∷ [])
elvis-units {own} {a} {b} {t} {at} e (l, r, o, el, er) =
    ap members (para-at _ _ e (layer.Elvis own l r t at) o) ∙ ap (λ x. x ++ units_of r.value) (boxed l a el) ∙ ap (λ x. units_of a ++ x) (boxed r b er) ∙ two-units a b

pub conditional-units : {c a b : TypedExpr} {t : Shared} {at : Place} (e : TypedExpr) → IsConditional c a b t at e → Made e (c ∷ a ∷ b ∷ [])
conditional-units {c} {a} {b} {t} {at} e (x, y, z, o, ec, ea, eb) =
    ap members (para-at _ _ e (layer.Conditional x y z t at) o)
    ∙ ap (λ l. l ++ (units_of y.value ++ units_of z.value)) (boxed x c ec) ∙ ap (λ l. units_of c ++ (l ++ units_of z.value)) (boxed y a ea)
    ∙ ap (λ l. units_of c ++ (units_of a ++ l)) (boxed z b eb) ∙ ap (λ l. units_of c ++ l) (two-units a b)

pub check-units : {panics : Bool} {own : ℕ} {a : TypedExpr} {t : Shared} {at : Place} (e : TypedExpr) → IsCheck panics own a t at e → Made e (a ∷ [])
check-units {panics} {own} {a} {t} {at} e (b, o, is) = ap members (para-at _ _ e (layer.Check panics own b t at) o) ∙ boxed b a is ∙ sym (one-units a)

pub trap-units : {a : TypedExpr} {t : Shared} {at : Place} (e : TypedExpr) → IsTrap a t at e → Made e (a ∷ [])
trap-units {a} {t} {at} e (b, o, is) = ap members (para-at _ _ e (layer.Trap b t at) o) ∙ boxed b a is ∙ sym (one-units a)

pub parens-units : {a : TypedExpr} {t : Shared} {at : Place} (e : TypedExpr) → IsParens a t at e → Made e (a ∷ [])
parens-units {a} {t} {at} e (b, o, is) = ap members (para-at _ _ e (layer.Parens b t at) o) ∙ boxed b a is ∙ sym (one-units a)

-- a function is a unit of its own, before those in its value
pub function-units : {f : AnonymousFunction} {value : TypedExpr} {t : Shared} {at : Place} (e : TypedExpr) → IsFunctionOf f value t at e
    → units_of e ≡ anonymous f value ∷ units_of value
function-units {f} {value} {t} {at} e (g, v, o, same, is) =
    ap members (para-at _ _ e (layer.Function g v t at) o) ∙ ap (λ (x : AnonymousFunction). anonymous x v.value ∷ units_of v.value) same
    ∙ ap (λ (x : TypedExpr). anonymous f x ∷ units_of x) is

-- where the parts are known to be these
pub of-these : (e : TypedExpr) {parts these : List TypedExpr} → parts ≡ these → Made e these → Made e parts
of-these e is made = made ∙ ap (λ (xs : List TypedExpr). units_in xs) (sym is)
