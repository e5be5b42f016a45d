-- One more of those that come one after another.
use Rattle.std.proofs.Common.{◌≡◌, ℕ, ◌+◌, ◌<◌, List, [], ◌∷◌, ◌++◌, length, map, take, get_or, refl, sym, ap, ◌∙◌}
use Rattle.std.proofs.lemmas.List.{take_more}
use Rattle.lower_model.specs.Making.{Making, in_turn}

turn-append : {X : Type 0} (f : X → Making → Making) (xs : List X) (x : X) (m : Making) → in_turn (map f (xs ++ x ∷ [])) m ≡ f x (in_turn (map f xs) m)
turn-append f [] x m = refl
turn-append f (y ∷ xs) x m = turn-append f xs x (f y m)

pub turn-more : {X : Type 0} (f : X → Making → Making) (xs : List X) (i : ℕ) (x : X) (before mid new : Making) → i < length xs → x ≡ get_or xs i x → mid ≡ in_turn (map f (take i xs)) before → new ≡ f x mid → new ≡ in_turn (map f (take (i + 1) xs)) before
turn-more f xs i x before mid new lt is here next =
    next ∙ ap (f x) here ∙ sym (ap (λ l. in_turn (map f l) before) (take_more xs i x lt ∙ ap (λ y. take i xs ++ y ∷ []) (sym is)) ∙ turn-append f (take i xs) x before)
