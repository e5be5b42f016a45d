-- What holds of each of a list.
use Rattle.std.proofs.Common.{◌≡◌, ◌⊎◌, ⊎_elim, Contains, List, [], ◌∷◌, ◌++◌, map, All, refl, arith}
use Rattle.std.proofs.lemmas.List.Elements.{All-nil, All-cons, All-head, All-tail, Contains-append_right, Contains-append_left}

module _ {X : Type 0} (P : X → Type 0) where
  -- the parts of a list put together
  pub All-parts : (xs ys : List X) → All P (xs ++ ys) → All P xs × All P ys
  All-parts [] ys h = (All-nil P, h)
  All-parts (x ∷ xs) ys h = let rest = All-parts xs ys (All-tail P x _ h) in (All-cons P x xs (All-head P x _ h) rest.0, rest.1)

  pub All-unmap : {Y : Type 0} (f : Y → X) (ys : List Y) → All P (map f ys) → All (λ y. P (f y)) ys
  All-unmap f [] h = All-nil _
  All-unmap f (y ∷ ys) h = All-cons (λ y. P (f y)) y ys (All-head P (f y) _ h) (All-unmap f ys (All-tail P (f y) _ h))

-- what holds of each where something else does
pub All-where : {X : Type 0} (R P Q : X → Type 0) → ((x : X) → R x → P x → Q x) → (xs : List X) → All R xs → All P xs → All Q xs
All-where R P Q f [] r p = All-nil Q
All-where R P Q f (x ∷ xs) r p = All-cons Q x xs (f x (All-head R x xs r) (All-head P x xs p)) (All-where R P Q f xs (All-tail R x xs r) (All-tail P x xs p))

pub map-where : {X Y : Type 0} (R : X → Type 0) (f g : X → Y) → ((x : X) → R x → f x ≡ g x) → (xs : List X) → All R xs → map f xs ≡ map g xs
map-where R f g e [] r = refl
map-where R f g e (x ∷ xs) r = λ i. e x (All-head R x xs r) i ∷ map-where R f g e xs (All-tail R x xs r) i

-- one of which something doesn't hold, where it doesn't hold of all
pub not_all : {X : Type 0} (P : X → Type 0) → ((x : X) → P x ⊎ (¬ P x)) → (xs : List X) → ¬ All P xs → (x : X) × Contains xs x × (¬ P x)
not_all P decided [] fails = absurd (fails (All-nil P))
not_all {X} P decided (x ∷ xs) fails = ⊎_elim (λ (h : P x). there (not_all P decided xs (λ rest. fails (All-cons P x xs h rest)))) (λ (n : ¬ P x). (x, Contains-append_left (x ∷ []) xs x (0, omega arith, refl), n)) (decided x)
  where
    there : (y : X) × Contains xs y × (¬ P y) → (y : X) × Contains (x ∷ xs) y × (¬ P y)
    there f = (f.0, Contains-append_right (x ∷ []) xs f.0 f.1, f.2)
