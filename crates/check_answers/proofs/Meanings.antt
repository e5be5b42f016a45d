-- Types of which the same is said are twins.
use Rattle.std.proofs.Common.{◌≡◌, ◌↔◌, List, [], refl, sym, subst, ◌∙◌}
use Rattle.bal_base.specs.declared.shape.Shape.{Shape}
use Rattle.bal_base.specs.Valid.{IsValid}
use Rattle.checks.specs.Agreement.{AreTwins}
use Rattle.descriptors.specs.Described.{HasMeaning, IsCopy, IsPlain}
use Rattle.type_model.specs.declared.atoms.AtomDef.{AtomDef}
use Rattle.type_model.specs.declared.basic.Choice.{Choice}
use Rattle.type_model.specs.declared.basic.SemType.{SemType}
use Rattle.type_model.specs.declared.basic.Ty.{Ty}
use Rattle.type_model.specs.SameType.{IsSameType}
use Rattle.type_model.proofs.Same.{both, either, itself}
use Rattle.type_model.proofs.SameTypes.{In-same}
use Rattle.check_words.specs.Kinds.{IsOfKind}
use Rattle.check_words.specs.Words.{EitherOf, OfKind, PartOf, SharedOf, UnionOf}
use Rattle.expr_needs.specs.declared.kind.Kind.{Kind}
use Rattle.check_answers.specs.TwinTypes.{TwinAtoms, TwinTypes}
use Rattle.check_answers.proofs.Members.{self-twins}

module _ (m n : List AtomDef) where
  -- the shapes of which one thing holds, and those of which another one does that comes to the same
  abbrev pub AlikeShapes : (Shape → Type 0) → (Shape → Type 0) → Type 0
  AlikeShapes P Q = (x : Shape) → IsValid x → P x ↔ Q x

  pub meanings-twin : (P Q : Shape → Type 0) (ls ms ks ns : List Choice) (s t : Ty) → AlikeShapes P Q → ks ≡ ls → ns ≡ ms
      → HasMeaning P ls ms m s → HasMeaning Q ks ns n t → TwinTypes m n s t
  meanings-twin P Q ls ms ks ns s t same e f h k =
      record {
        shapes = λ x v. (λ i. (k.shapes x v).1 ((same x v).0 ((h.shapes x v).0 i)), λ i. (h.shapes x v).1 ((same x v).1 ((k.shapes x v).0 i)));
        lists = k.lists ∙ e ∙ sym h.lists;
        maps = k.maps ∙ f ∙ sym h.maps;
      }

  pub plain-twin : (P Q : Shape → Type 0) (s t : Ty) → AlikeShapes P Q → IsPlain P m s → IsPlain Q n t → TwinTypes m n s t
  plain-twin P Q s t same h k = meanings-twin P Q [] [] [] [] s t same refl refl h k

  pub same-twin : (P : Shape → Type 0) (s t : Ty) → IsPlain P m s → IsPlain P n t → TwinTypes m n s t
  same-twin P s t h k = plain-twin P P s t (λ x v. itself) h k

  pub kinds-twin : (k : Kind) (s t : Ty) → OfKind k m s → OfKind k n t → TwinTypes m n s t
  kinds-twin k s t h i = same-twin (IsOfKind k) s t h.0 i.0

  pub either-twin : (s t : SemType) (P : Shape → Type 0) (r u : Ty) → AreTwins m s n t → EitherOf s P m r → EitherOf t P n u → TwinTypes m n r u
  either-twin s t P r u e h k = plain-twin _ _ r u (λ x v. either (e x v) itself) h k

  pub part-twin : (s t : SemType) (P : Shape → Type 0) (r u : Ty) → AreTwins m s n t → PartOf s P m r → PartOf t P n u → TwinTypes m n r u
  part-twin s t P r u e h k = plain-twin _ _ r u (λ x v. both (e x v) itself) h k

  pub union-twin : (s s2 t t2 : SemType) (r u : Ty) → AreTwins m s n t → AreTwins m s2 n t2 → UnionOf s s2 m r → UnionOf t t2 n u → TwinTypes m n r u
  union-twin s s2 t t2 r u e f h k = plain-twin _ _ r u (λ x v. either (e x v) (f x v)) h k

  pub shared-twin : (s s2 t t2 : SemType) (r u : Ty) → AreTwins m s n t → AreTwins m s2 n t2 → SharedOf s s2 m r → SharedOf t t2 n u → TwinTypes m n r u
  shared-twin s s2 t t2 r u e f h k = plain-twin _ _ r u (λ x v. both (e x v) (f x v)) h k

  -- ---- copies

  pub sem-copies : (s t u v : SemType) → AreTwins m s n t → IsSameType s u → IsSameType t v → AreTwins m u n v
  sem-copies s t u v h p q x valid = (
    λ i. (In-same n x t v q).0 ((h x valid).0 ((In-same m x s u p).1 i)),
    λ i. (In-same m x s u p).0 ((h x valid).1 ((In-same n x t v q).1 i)),
  )

  pub copies-twin : (s t u v : Ty) → TwinTypes m n s t → IsCopy s u → IsCopy t v → TwinTypes m n u v
  copies-twin s t u v h p q =
      record {
        shapes = sem-copies s.sem t.sem u.sem v.sem h.shapes p.sem q.sem;
        lists = sym q.lists ∙ h.lists ∙ p.lists;
        maps = sym q.maps ∙ h.maps ∙ p.maps;
      }

  pub itself-twin : TwinAtoms m n → (t : Ty) → TwinTypes m n t t
  itself-twin twins t = record { shapes = self-twins m n twins t.sem; lists = refl; maps = refl }

  pub equal-twin : TwinAtoms m n → (t s u : Ty) → s ≡ t → u ≡ t → TwinTypes m n s u
  equal-twin twins t s u p q = subst (λ r. TwinTypes m n r u) (sym p) (subst (TwinTypes m n t) (sym q) (itself-twin twins t))
