-- The numbers that are there, in a loop that adds one after another.
use Rattle.std.proofs.Common.{◌≡◌, ℕ, ◌+◌, ◌<◌, List, [], ◌∷◌, ◌++◌, length, get_or, take, map, refl, sym, ap, ◌∙◌, Option, Some, None}
use Rattle.std.proofs.lemmas.List.{map-append, take_more}
use Rattle.typed_tree.specs.Skeleton.{and_then, those_there}

those_there-push : (ns : List (Option ℕ)) (n : Option ℕ) → those_there (ns ++ n ∷ []) ≡ those_there ns ++ and_then n []
those_there-push [] n = refl
those_there-push (None ∷ ns) n = those_there-push ns n
those_there-push (Some k ∷ ns) n = ap (λ l. k ∷ l) (those_there-push ns n)

pub those_there-more : {X : Type 0} (f : X → Option ℕ) (xs : List X) (i : ℕ) (x : X) (n : Option ℕ) (mid new : List ℕ) → i < length xs → x ≡ get_or xs i x
    → mid ≡ those_there (map f (take i xs)) → n ≡ f x → new ≡ mid ++ and_then n [] → new ≡ those_there (map f (take (i + 1) xs))
those_there-more f xs i x n mid new lt is before here next =
    next ∙ ap (λ l. l ++ and_then n []) before ∙ ap (λ m. those_there (map f (take i xs)) ++ and_then m []) here
    ∙ sym (ap those_there (ap (map f) (take_more xs i x lt ∙ ap (λ y. take i xs ++ y ∷ []) (sym is)) ∙ map-append f (take i xs) (x ∷ [])) ∙ those_there-push (map f (take i xs)) (f x))
