-- One more of those that come one after another.
use Rattle.std.proofs.Common.{◌≡◌, ℕ, ◌+◌, ◌<◌, List, [], ◌∷◌, ◌++◌, length, map, take, get_or, refl, sym, ap, ◌∙◌}
use Rattle.std.proofs.lemmas.List.{take_more}
use Rattle.map_traces.specs.Tracing.{Tracing, in_turn}

turn-append : {X : Type 0} (f : X → Tracing → Tracing) (xs : List X) (x : X) (s : Tracing) → in_turn (map f (xs ++ x ∷ [])) s ≡ f x (in_turn (map f xs) s)
turn-append f [] x s = refl
turn-append f (y ∷ xs) x s = turn-append f xs x (f y s)

pub turn-more : {X : Type 0} (f : X → Tracing → Tracing) (xs : List X) (i : ℕ) (x : X) (before mid new : Tracing) → i < length xs → x ≡ get_or xs i x → mid ≡ in_turn (map f (take i xs)) before → new ≡ f x mid → new ≡ in_turn (map f (take (i + 1) xs)) before
turn-more f xs i x before mid new lt is here next =
    next ∙ ap (f x) here ∙ sym (ap (λ l. in_turn (map f l) before) (take_more xs i x lt ∙ ap (λ y. take i xs ++ y ∷ []) (sym is)) ∙ turn-append f (take i xs) x before)

-- the same where each takes something more
turn-append-with : {X Y : Type 0} (f : X → Y → Tracing → Tracing) (y : Y) (xs : List X) (x : X) (s : Tracing) → in_turn (map (λ g. g y) (map f (xs ++ x ∷ []))) s ≡ f x y (in_turn (map (λ g. g y) (map f xs)) s)
turn-append-with f y [] x s = refl
turn-append-with f y (z ∷ xs) x s = turn-append-with f y xs x (f z y s)

pub turn-more-with : {X Y : Type 0} (f : X → Y → Tracing → Tracing) (y : Y) (xs : List X) (i : ℕ) (x : X) (before mid new : Tracing) → i < length xs → x ≡ get_or xs i x → mid ≡ in_turn (map (λ g. g y) (map f (take i xs))) before → new ≡ f x y mid → new ≡ in_turn (map (λ g. g y) (map f (take (i + 1) xs))) before
turn-more-with f y xs i x before mid new lt is here next =
    next ∙ ap (f x y) here ∙ sym (ap (λ l. in_turn (map (λ g. g y) (map f l)) before) (take_more xs i x lt ∙ ap (λ z. take i xs ++ z ∷ []) (sym is)) ∙ turn-append-with f y (take i xs) x before)
