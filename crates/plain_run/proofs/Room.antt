-- What is taken of a room, one member of a list after another, and what is left.
use Rattle.std.proofs.Common.{◌≡◌, ◌+◌, ◌<◌, ◌≤◌, ℕ, List, Some, length, take, get_or, ap, ◌∙◌, arith}
use Rattle.std.specs.List.{sum_by}
use Rattle.std.proofs.lemmas.List.{take_all}
use Rattle.std.proofs.lemmas.List.Sums.{sum_by_more}
use Rattle.plain_run.specs.Came.{IsLeft}

pub none-taken : (room : ℕ) → IsLeft room 0 (Some room)
none-taken room = omega arith

pub sum-more : {X : Type 0} (f : X → ℕ) (xs : List X) (i : ℕ) (x : X) (start all next : ℕ) → i < length xs → x ≡ get_or xs i x → all ≡ start + sum_by f (take i xs) → next ≡ all + f x → next ≡ start + sum_by f (take (i + 1) xs)
sum-more f xs i x start all next l e h n =
    let more : sum_by f (take (i + 1) xs) ≡ sum_by f (take i xs) + f (get_or xs i x) = sum_by_more f xs i x l in
    let here : f x ≡ f (get_or xs i x) = ap f e in
    omega (arith, more, here, h, n)

pub sum-all : {X : Type 0} (f : X → ℕ) (xs : List X) (i start all : ℕ) → length xs ≤ i → all ≡ start + sum_by f (take i xs) → all ≡ start + sum_by f xs
sum-all f xs i start all l h = h ∙ ap (λ ys. start + sum_by f ys) (take_all i xs l)
