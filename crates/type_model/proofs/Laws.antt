-- Laws of membership and inclusion.
use Rattle.std.proofs.Common.{◌≡◌, ℕ, zero, suc, ◌<◌, ◌↔◌, ◌++◌, ◌⊎◌, ⊎_elim, List, [], ◌∷◌, length, slice_get, IsSomeAnd, Some, None, Box, Global, refl, sym, subst, arith}
use Rattle.bal_base.specs.declared.shape.Shape.{Shape}
use Rattle.type_model.specs.declared.basic.SemType.{SemType, Basic, Atom, Or, And, Not}
use Rattle.type_model.specs.declared.basic.BasicSet.{BasicSet}
use Rattle.type_model.specs.declared.atoms.AtomDef.{AtomDef}
use Rattle.type_model.specs.Basic.{InBasic}
use Rattle.type_model.specs.Membership.{In, Fits}
use Rattle.type_model.specs.Inclusion.{Sub, IsEmpty, HaveSameShapes}
use Rattle.type_model.specs.Defined.{IsDefined, IsClosed}
use Rattle.type_model.proofs.Decided.{In-decided}
use Rattle.type_model.proofs.Same.{itself}
use Rattle.type_model.proofs.Growth.{In-kept}

module _ (env : List AtomDef) (x : Shape) where
  pub In-Basic : (b : BasicSet) → In env x (Basic b) ↔ InBasic x b
  In-Basic b = itself

  pub In-Or : (s t : Box SemType Global) → In env x (Or s t) ↔ (In env x s.value ⊎ In env x t.value)
  In-Or s t = itself

  pub In-And : (s t : Box SemType Global) → In env x (And s t) ↔ (In env x s.value × In env x t.value)
  In-And s t = itself

  pub In-Not : (t : Box SemType Global) → In env x (Not t) ↔ (¬ In env x t.value)
  In-Not t = itself

  -- the shapes of an atom are those that fit its definition
  pub In-Atom : (n : ℕ) (d : AtomDef) → slice_get env n ≡ Some d → In env x (Atom n) ↔ Fits env x d
  In-Atom n d is = subst (λ o. IsSomeAnd o (Fits env x) ↔ Fits env x d) (sym is) itself

  -- an atom that isn't defined has no shapes
  pub In-no_atom : (n : ℕ) → slice_get env n ≡ None → ¬ In env x (Atom n)
  In-no_atom n is h = subst (λ o. IsSomeAnd o (Fits env x)) is h

slice_get-append : {X : Type 0} (xs ys : List X) (a : ℕ) → a < length xs → slice_get (xs ++ ys) a ≡ slice_get xs a
slice_get-append [] ys a lt = absurd (omega (arith, lt))
slice_get-append (x ∷ xs) ys zero lt = refl
slice_get-append (x ∷ xs) ys (suc a) lt = slice_get-append xs ys a (omega (arith, lt))

-- atoms that are added change nothing of a type over the older ones
module _ (env more : List AtomDef) (closed : IsClosed env) where
  pub In-append : (x : Shape) (t : SemType) → IsDefined env t → In env x t ↔ In (env ++ more) x t
  In-append = In-kept env (env ++ more) closed (slice_get-append env more)

  pub Sub-append : (s t : SemType) → IsDefined env s → IsDefined env t → Sub env s t ↔ Sub (env ++ more) s t
  Sub-append s t p q = (
    λ h x v i. (In-append x t q).0 (h x v ((In-append x s p).1 i)),
    λ h x v i. (In-append x t q).1 (h x v ((In-append x s p).0 i)),
  )

module _ (env : List AtomDef) where
  pub Sub-refl : (t : SemType) → Sub env t t
  Sub-refl t x v h = h

  pub Sub-trans : (r s t : SemType) → Sub env r s → Sub env s t → Sub env r t
  Sub-trans r s t f g x v h = g x v (f x v h)

  -- two types with the same shapes are below each other
  pub HaveSameShapes-Sub : (s t : SemType) → HaveSameShapes env s t ↔ (Sub env s t × Sub env t s)
  HaveSameShapes-Sub s t = (
    λ h. (λ x v i. (h x v).0 i, λ x v i. (h x v).1 i),
    λ h x v. (h.0 x v, h.1 x v),
  )

  -- s is below t exactly where no shape is in s and not in t
  pub Sub-IsEmpty : (s t : Box SemType Global) (not_t : Box SemType Global) → not_t.value ≡ Not t → Sub env s.value t.value ↔ IsEmpty env (And s not_t)
  Sub-IsEmpty s t not_t is = (
    λ h x v i. (subst (λ u. In env x u) is i.1) (h x v i.0),
    λ h x v i. ⊎_elim (λ (j : In env x t.value). j) (λ (n : ¬ In env x t.value). absurd (h x v (i, subst (λ u. In env x u) (sym is) n))) (In-decided env x t.value),
  )
