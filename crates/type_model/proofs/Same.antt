-- What holds in one place exactly where it holds in another.
use Rattle.std.proofs.Common.{◌↔◌, ◌⊎◌, ⊎_elim, inl, inr, IfSome, IsSomeAnd, Option, Some, None}

pub both : {A B C D : Type 0} → A ↔ B → C ↔ D → (A × C) ↔ (B × D)
both e f = (λ h. (e.0 h.0, f.0 h.1), λ h. (e.1 h.0, f.1 h.1))

pub either : {A B C D : Type 0} → A ↔ B → C ↔ D → (A ⊎ C) ↔ (B ⊎ D)
either {A} {B} {C} {D} e f = (
  ⊎_elim (λ (a : A). inl (e.0 a)) (λ (c : C). inr (f.0 c)),
  ⊎_elim (λ (b : B). inl (e.1 b)) (λ (d : D). inr (f.1 d)),
)

pub neither : {A B : Type 0} → A ↔ B → (¬ A) ↔ (¬ B)
neither e = (λ h b. h (e.1 b), λ h a. h (e.0 a))

pub where_so : {A B C D : Type 0} → A ↔ B → C ↔ D → (A → C) ↔ (B → D)
where_so e f = (λ h b. f.0 (h (e.1 b)), λ h a. f.1 (h (e.0 a)))

pub itself : {A : Type 0} → A ↔ A
itself = (λ a. a, λ a. a)

pub at_some : {X : Type 0} (o : Option X) (R P Q : X → Type 0) → IfSome o R → ((x : X) → R x → P x ↔ Q x) → IsSomeAnd o P ↔ IsSomeAnd o Q
at_some None R P Q r same = itself
at_some (Some x) R P Q r same = same x r
