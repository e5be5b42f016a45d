-- What is left of a room, one member of a list after another.
use Rattle.std.proofs.Common.{◌≡◌, ◌+◌, ◌<◌, ◌≤◌, ℕ, List, Option, length, take, get_or, subst, ap, arith}
use Rattle.std.specs.List.{sum_by}
use Rattle.std.proofs.lemmas.List.{take_all}
use Rattle.std.proofs.lemmas.List.Sums.{sum_by_more}
use Rattle.plain_run.specs.Came.{IsLeft}

pub take-more : {X : Type 0} (f : X → ℕ) (xs : List X) (i : ℕ) (x : X) (room taken : ℕ) (left : Option ℕ) → i < length xs → x ≡ get_or xs i x → IsLeft room (taken + sum_by f (take i xs) + f x) left → IsLeft room (taken + sum_by f (take (i + 1) xs)) left
take-more f xs i x room taken left l e h =
    let more : sum_by f (take (i + 1) xs) ≡ sum_by f (take i xs) + f (get_or xs i x) = sum_by_more f xs i x l in
    let here : f x ≡ f (get_or xs i x) = ap f e in
    subst (λ n. IsLeft room n left) (omega (arith, more, here)) h

pub taken-all : {X : Type 0} (f : X → ℕ) (xs : List X) (i : ℕ) (room taken : ℕ) (left : Option ℕ) → length xs ≤ i → IsLeft room (taken + sum_by f (take i xs)) left → IsLeft room (taken + sum_by f xs) left
taken-all f xs i room taken left l h = subst (λ ys. IsLeft room (taken + sum_by f ys) left) (take_all i xs l) h
