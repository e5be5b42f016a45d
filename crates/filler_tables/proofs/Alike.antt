-- Types with the same shapes have the same simple fillers.
use Rattle.std.proofs.Common.{◌≡◌, ◌↔◌, ℤ, pos, Bool, false, List, [], inl, inr}
use Rattle.bal_base.specs.declared.text.Text.{Text}
use Rattle.bal_base.specs.declared.shape.Shape.{Shape, Nil as NilShape, Bool as BoolShape, Int as IntShape, Str as StrShape}
use Rattle.type_model.specs.declared.atoms.AtomDef.{AtomDef}
use Rattle.type_model.specs.declared.basic.SemType.{SemType}
use Rattle.type_model.specs.Inclusion.{HaveSameShapes, IsEmpty}
use Rattle.type_model.specs.Membership.{In}
use Rattle.value_model.specs.declared.filler.Filler.{Filler}
use Rattle.value_model.specs.declared.filler.Filler.TheVariants.{Nothing, Nil, Bool as Truth, Int, Str, List as NewList, Mapping as NewMapping}
use Rattle.value_model.specs.Exact.{HasAmong, IsOnly, IsSimpleFiller}

module _ (env : List AtomDef) (s t : SemType) (same : (x : Shape) → In env x s ↔ In env x t) where
  only-on : (x : Shape) → IsOnly env s x → IsOnly env t x
  only-on x (is, exactly) = ((is.0, (same x).0 is.1), (λ y v. ((λ h. (exactly y v).0 ((same y).1 h)), (λ e. (same y).0 ((exactly y v).1 e)))))

  among-on : (Kind : Shape → Type 0) (x : Shape) → HasAmong env Kind s x → HasAmong env Kind t x
  among-on Kind x (all, there) = ((λ y is. all y (is.0, (same y).1 is.1)), (same x).0 there)

  pub simple-on : (f : Filler) → IsSimpleFiller env s f → IsSimpleFiller env t f
  simple-on Nothing h = h
  simple-on Nil h = (same NilShape).0 h
  simple-on (Truth b) (inl only) = inl (only-on (BoolShape b) only)
  simple-on (Truth b) (inr h) = inr (h.0, among-on (λ x. (c : Bool) × (x ≡ BoolShape c)) (BoolShape false) h.1)
  simple-on (Int i) (inl only) = inl (only-on (IntShape i) only)
  simple-on (Int i) (inr h) = inr (h.0, among-on (λ x. (j : ℤ) × (x ≡ IntShape j)) (IntShape (pos 0)) h.1)
  simple-on (Str u) (inl only) = inl (only-on (StrShape u) only)
  simple-on (Str u) (inr h) = inr (h.0, among-on (λ x. (w : Text) × (x ≡ StrShape w)) (StrShape []) h.1)
  simple-on (NewList a) h = h
  simple-on (NewMapping a) h = h

  pub shapes-on : (u : SemType) → HaveSameShapes env s u → HaveSameShapes env t u
  shapes-on u h = λ x v. ((λ i. (h x v).0 ((same x).1 i)), (λ i. (same x).0 ((h x v).1 i)))

  pub empty-on : IsEmpty env s → IsEmpty env t
  empty-on h = λ x v i. h x v ((same x).1 i)
