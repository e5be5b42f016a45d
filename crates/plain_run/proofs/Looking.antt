-- What is looked up in a list, as what it stands for.
use Rattle.std.proofs.Common.{◌≡◌, ℕ, zero, suc, List, [], ◌∷◌, Some, None, get_or, map, refl, ap}
use Rattle.std.specs.Prelude.{slice_get}

pub get-there : {X Y : Type 0} (f : X → Y) (xs : List X) (n : ℕ) (x : X) (d : Y) → slice_get xs n ≡ Some x → get_or (map f xs) n d ≡ f x
get-there f [] n x d e = absurd (none x e)
  where
    none : {A : Type 0} (a : A) → None ≡ Some a → ⊥
    none a e = cc
get-there f (y ∷ ys) zero x d e = ap f (same y x e)
  where
    same : {A : Type 0} (a b : A) → Some a ≡ Some b → a ≡ b
    same a b e = cc
get-there f (y ∷ ys) (suc n) x d e = get-there f ys n x d e

pub get-past : {X Y : Type 0} (f : X → Y) (xs : List X) (n : ℕ) (d : Y) → slice_get xs n ≡ None → get_or (map f xs) n d ≡ d
get-past f [] n d e = refl
get-past f (y ∷ ys) zero d e = absurd (some y e)
  where
    some : {A : Type 0} (a : A) → Some a ≡ None → ⊥
    some a e = cc
get-past f (y ∷ ys) (suc n) d e = get-past f ys n d e

pub ruleset looking = (get-there, get-past)
