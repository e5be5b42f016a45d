-- Types of one string, and names among keys.
use Rattle.std.proofs.Common.{◌≡◌, ◌<◌, ◌↔◌, ◌∙◌, ℕ, zero, suc, Bool, true, false, List, [], ◌∷◌, All, Any, IsTrue, Result, Ok, Err, IfOk, ap, arith, length, map, get_or, refl, subst, sym}
use Rattle.bal_base.specs.declared.shape.Shape.{Str}
use Rattle.bal_base.specs.declared.text.Text.{Text}
use Rattle.operations.specs.declared.operation.Constant.TheVariants as constant
use Rattle.operations.specs.Rows.{IsSingle}
use Rattle.type_model.specs.declared.atoms.AtomDef.{AtomDef}
use Rattle.type_model.specs.declared.basic.BasicSet.TheVariants.{StringOne}
use Rattle.type_model.specs.declared.basic.SemType.{SemType, Basic}
use Rattle.type_model.specs.Inclusion.{HasExactly, Sub}
use Rattle.code_verifier.proofs.KindShapes.{constant-exactly}

module _ (env : List AtomDef) (t : SemType) (name : Text) where
  abbrev One : SemType
  One = Basic (StringOne name)

  exactly-one : HasExactly env One (λ x. x ≡ Str name)
  exactly-one = constant-exactly env (constant.Str name)

  single-of-both : (Sub env t One × Sub env One t) ↔ IsSingle env t (Str name)
  single-of-both = (
    (λ h y v. ((λ i. (exactly-one y v).0 (h.0 y v i)), (λ e. h.1 y v ((exactly-one y v).1 e)))),
    (λ s. ((λ y v i. (exactly-one y v).1 ((s y v).0 i)), (λ y v i. (s y v).1 ((exactly-one y v).0 i)))),
  )

  abbrev Decides : Bool → Type 0
  Decides decided = IsTrue decided ↔ IsSingle env t (Str name)

  by-both : (decided : Bool) → IsTrue decided ↔ (Sub env t One × Sub env One t) → Decides decided
  by-both decided h = ((λ e. single-of-both.0 (h.0 e)), (λ s. h.1 (single-of-both.1 s)))

  pub single-told : {E : Type 0} (r : Result Bool E) → IfOk r (λ decided. IsTrue decided ↔ (Sub env t One × Sub env One t)) → IfOk r Decides
  single-told (Ok decided) h = by-both decided h
  single-told (Err e) h = tt

  pub is-single : (decided : Bool) → decided ≡ true → Decides decided → IsSingle env t (Str name)
  is-single decided e d = d.0 e

  pub no-single : (decided : Bool) → decided ≡ false → Decides decided → ¬ (IsSingle env t (Str name))
  no-single decided e d s = absurd (let both : true ≡ false = sym (d.1 s) ∙ e in let q : ⊥ = cc in q)

-- ---- Booleans

pub where-first : (first : Bool) → first ≡ true → (P : Type 0) (decided : Bool) → IsTrue decided ↔ P → IsTrue decided ↔ (IsTrue first × P)
where-first first e P decided h = ((λ y. (e, h.0 y)), (λ p. h.1 p.1))

pub where-first-ok : (first : Bool) → first ≡ true → (P : Type 0) → {E : Type 0} (r : Result Bool E) → IfOk r (λ decided. IsTrue decided ↔ P) → IfOk r (λ decided. IsTrue decided ↔ (IsTrue first × P))
where-first-ok first e P (Ok decided) h = where-first first e P decided h
where-first-ok first e P (Err s) h = tt

pub where-not : (first : Bool) → first ≡ false → (P : Type 0) → IsTrue false ↔ (IsTrue first × P)
where-not first e P = ((λ y. absurd (let q : ⊥ = cc in q)), (λ p. absurd (let both : true ≡ false = sym p.0 ∙ e in let q : ⊥ = cc in q)))

pub both-decided : (first : Bool) (P Q : Type 0) → IsTrue first ↔ P → {E : Type 0} (r : Result Bool E) → IfOk r (λ decided. IsTrue decided ↔ (IsTrue first × Q)) → IfOk r (λ decided. IsTrue decided ↔ (P × Q))
both-decided first P Q d (Ok decided) h = ((λ y. (d.0 (h.0 y).0, (h.0 y).1)), (λ p. h.1 (d.1 p.0, p.1)))
both-decided first P Q d (Err s) h = tt

-- ---- among what a list is mapped to

module _ {A B : Type 0} (f : A → B) (P : B → Type 0) where
  pub any-mapped : (xs : List A) (i : ℕ) (y : A) → i < length xs → get_or xs i y ≡ y → P (f y) → Any P (map f xs)
  any-mapped [] i y lt e p = absurd (omega (arith, lt))
  any-mapped (x ∷ xs) zero y lt e p = (zero, f y, omega arith, ap f e, p)
  any-mapped (x ∷ xs) (suc i) y lt e p = let (k, z, l, s, q) = any-mapped xs i y (omega (arith, lt)) e p in (suc k, z, omega (arith, l), s, q)

  any-back : (xs : List A) → Any P (map f xs) → Any (λ x. P (f x)) xs
  any-back [] (k, y, lt, e, p) = absurd (omega (arith, lt))
  any-back (x ∷ xs) (zero, y, lt, e, p) = (zero, x, omega arith, refl, subst P (sym e) p)
  any-back (x ∷ xs) (suc k, y, lt, e, p) = let (i, z, l, s, q) = any-back xs (k, y, omega (arith, lt), e, p) in (suc i, z, omega (arith, l), s, q)

  pub none-mapped : (xs : List A) → All (λ x. ¬ (P (f x))) xs → ¬ (Any P (map f xs))
  none-mapped xs none any = let (i, z, lt, e, q) = any-back xs any in none i z lt (subst (λ (x : A). P (f x)) (sym e) q)
