-- A member of a list that is held, and what it is changed to.
use Rattle.std.proofs.Common.{◌≡◌, ◌∙◌, ℕ, suc, List, [], ◌∷◌, Some, None, drop, get_or, length, map, refl, sym, ap, arith}
use Rattle.std.specs.Prelude.{slice_get, slice_set}
use Rattle.plain_run.proofs.Looking.{get-past, get-there}
use Rattle.plain_run.proofs.Settling.{set-past, set-there}
use Rattle.plain_messages.specs.Channels.{changed}

pub changed-there : {X Y : Type 0} (f : X → Y) (g : Y → Y) (xs : List X) (n : ℕ) (x t : X) (d : Y) → slice_get xs n ≡ Some x → f t ≡ g (f x) → map f (slice_set xs n t) ≡ changed g d (map f xs) n
changed-there f g xs n x t d e h = set-there f xs n t (g (f x)) h ∙ ap (λ y. slice_set (map f xs) n (g y)) (sym (get-there f xs n x d e))

pub changed-past : {X Y : Type 0} (f : X → Y) (g : Y → Y) (xs : List X) (n : ℕ) (d : Y) → slice_get xs n ≡ None → map f xs ≡ changed g d (map f xs) n
changed-past f g xs n d e = set-past f xs n (g (get_or (map f xs) n d)) e

pub drop-none : {X : Type 0} (xs : List X) → length xs ≡ 0 → xs ≡ drop 1 xs
drop-none [] e = refl
drop-none (x ∷ xs) e = absurd (nonzero (length xs) e)
  where
    nonzero : (n : ℕ) → suc n ≡ 0 → ⊥
    nonzero n e = omega arith

pub ruleset changing = (get-there, get-past, changed-past, drop-none)
