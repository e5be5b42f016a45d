-- The fields of a construct that a change in place leaves as they are.
use Rattle.std.proofs.Common.{◌≡◌, ap, sym, subst, ℕ, Bool}
use Rattle.std.specs.Global.{Box, Global}
use Rattle.std.specs.declared.vec.Vec.{Vec}
use Rattle.bal_base.specs.declared.place.Place.{Place}
use Rattle.typed_tree.specs.contracts.expr.TypedExpr.{enum}
use Rattle.typed_tree.specs.declared.expr.TypedExpr.{TypedExpr, Strict, Elvis, Check}
use Rattle.typed_tree.specs.declared.form.StrictForm.{StrictForm}
use Rattle.typed_tree.specs.SharedTypes.{Shared}
use borrow.Enum.Known.{ValuesAt}
use borrow.Enum.Total.{values_d, values_d_at}

pub form-of-strict : (e : TypedExpr) (form : StrictForm) (es : Vec TypedExpr Global) (type : Shared) (at : Place) (d : ValuesAt enum.parts 0) → e ≡ Strict form es type at → (values_d enum 0 d e).0 ≡ form
form-of-strict e form es type at d is = subst (λ z. (values_d enum 0 d z).0 ≡ form) (sym is) (ap (λ v. v.0) (values_d_at enum 0 d (form, (es, (type, (at, tt))))))

pub own-of-elvis : (e : TypedExpr) (own : ℕ) (a b : Box TypedExpr) (type : Shared) (at : Place) (d : ValuesAt enum.parts 6) → e ≡ Elvis own a b type at → (values_d enum 6 d e).0 ≡ own
own-of-elvis e own a b type at d is = subst (λ z. (values_d enum 6 d z).0 ≡ own) (sym is) (ap (λ v. v.0) (values_d_at enum 6 d (own, (a, (b, (type, (at, tt)))))))

pub panics-of-check : (e : TypedExpr) (panics : Bool) (own : ℕ) (a : Box TypedExpr) (type : Shared) (at : Place) (d : ValuesAt enum.parts 7) → e ≡ Check panics own a type at → (values_d enum 7 d e).0 ≡ panics
panics-of-check e panics own a type at d is = subst (λ z. (values_d enum 7 d z).0 ≡ panics) (sym is) (ap (λ v. v.0) (values_d_at enum 7 d (panics, (own, (a, (type, (at, tt)))))))

pub own-of-check : (e : TypedExpr) (panics : Bool) (own : ℕ) (a : Box TypedExpr) (type : Shared) (at : Place) (d : ValuesAt enum.parts 7) → e ≡ Check panics own a type at → (values_d enum 7 d e).1.0 ≡ own
own-of-check e panics own a type at d is = subst (λ z. (values_d enum 7 d z).1.0 ≡ own) (sym is) (ap (λ v. v.1.0) (values_d_at enum 7 d (panics, (own, (a, (type, (at, tt)))))))
