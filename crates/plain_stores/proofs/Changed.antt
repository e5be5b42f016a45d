-- A structure that is changed where it is held.
use Rattle.std.proofs.Common.{◌≡◌, ◌∙◌, ◌≤◌, ℕ, zero, suc, List, [], ◌∷◌, Some, length, map, refl, sym, ap, arith}
use Rattle.std.specs.Prelude.{slice_get, slice_set}
use Rattle.std.proofs.lemmas.Option.{same_Some}
use Rattle.plain_stores.specs.Changes.{changed_at}

pub changed-there : {X Y : Type 0} (f : X → Y) (g : Y → Y) (xs : List X) (n : ℕ) (x t : X) → slice_get xs n ≡ Some x → f t ≡ g (f x) → map f (slice_set xs n t) ≡ changed_at g (map f xs) n
changed-there f g [] n x t e h = refl
changed-there f g (z ∷ xs) zero x t e h = ap (λ y. y ∷ map f xs) (h ∙ ap (λ v. g (f v)) (sym (same_Some z x e)))
changed-there f g (z ∷ xs) (suc n) x t e h = ap (λ l. f z ∷ l) (changed-there f g xs n x t e h)

pub changed-past : {X Y : Type 0} (f : X → Y) (g : Y → Y) (xs : List X) (n : ℕ) → length xs ≤ n → map f xs ≡ changed_at g (map f xs) n
changed-past f g [] n l = refl
changed-past f g (z ∷ xs) zero l = absurd (omega (arith, l))
changed-past f g (z ∷ xs) (suc n) l = let m : length xs ≤ n = omega (arith, l) in ap (λ l. f z ∷ l) (changed-past f g xs n m)

-- what is there is set
pub changed-set : {A : Type 0} (g : A → A) (xs : List A) (n : ℕ) (x : A) → slice_get xs n ≡ Some x → changed_at g xs n ≡ slice_set xs n (g x)
changed-set g [] n x e = refl
changed-set g (z ∷ xs) zero x e = ap (λ y. g y ∷ xs) (same_Some z x e)
changed-set g (z ∷ xs) (suc n) x e = ap (λ l. z ∷ l) (changed-set g xs n x e)
