-- Counts that are kept as structures and function values come and change.
use Rattle.std.proofs.Common.{◌≡◌, ◌+◌, ◌-◌, ◌<◌, ◌≤◌, ℕ, List, [], ◌∷◌, ◌++◌, length, get_or, sym, ap, ◌∙◌, arith}
use Rattle.std.specs.Prelude.{slice_set}
use Rattle.std.specs.List.{sum_by}
use Rattle.std.proofs.lemmas.List.Sums.{sum_by-append, sum_by-set, sum_by_push, get_or-le-sum_by}

module _ {X : Type 0} (f : X → ℕ) (xs : List X) (cells : ℕ) (is : cells ≡ sum_by f xs) where
  pub counted-push : (x : X) (all : ℕ) (ys : List X) → all ≡ cells + f x → ys ≡ xs ++ x ∷ [] → all ≡ sum_by f ys
  counted-push x all ys a e = let one = sum_by_push f xs x in let q : all ≡ sum_by f (xs ++ x ∷ []) = omega (arith, one, is, a) in q ∙ ap (sum_by f) (sym e)

  pub counted-append : (more : List X) (all : ℕ) (ys : List X) → all ≡ cells + sum_by f more → ys ≡ xs ++ more → all ≡ sum_by f ys
  counted-append more all ys a e = let one = sum_by-append f xs more in let q : all ≡ sum_by f (xs ++ more) = omega (arith, one, is, a) in q ∙ ap (sum_by f) (sym e)

  pub counted-set : (n : ℕ) (x : X) (all : ℕ) (ys : List X) → n < length xs → all + f (get_or xs n x) ≡ cells + f x → ys ≡ slice_set xs n x → all ≡ sum_by f ys
  counted-set n x all ys l a e =
      let one = sum_by-set f xs n x x l in
      let q : all ≡ sum_by f (slice_set xs n x) = omega (arith, one, is, a) in
      q ∙ ap (sum_by f) (sym e)

  -- a member's part is no more than all
  pub counted-least : (n : ℕ) (x : X) → n < length xs → f (get_or xs n x) ≤ cells
  counted-least n x l = let one = get_or-le-sum_by f xs n x l in omega (arith, one, is)

pub ruleset counted = (counted-push, counted-append, counted-set, counted-least)
