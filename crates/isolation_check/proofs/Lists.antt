-- Lists that grow by what each member gives.
use Rattle.std.proofs.Common.{◌≡◌, ◌∙◌, ◌<◌, ◌+◌, ◌++◌, ℕ, List, [], ◌∷◌, map, take, get_or, length, sym, ap, append_assoc}
use Rattle.std.specs.List.{flat_map}
use Rattle.std.proofs.lemmas.List.{flat_map_more, map_more, take_more}

-- one more of a list, behind what was there
pub mapped-more : {X Y : Type 0} (f : X → Y) (old mid new : List Y) (xs : List X) (i : ℕ) (x : X) → i < length xs → x ≡ get_or xs i x
    → mid ≡ old ++ map f (take i xs) → new ≡ mid ++ f x ∷ [] → new ≡ old ++ map f (take (i + 1) xs)
mapped-more f old mid new xs i x lt is before next =
    next ∙ ap (λ l. l ++ f x ∷ []) before ∙ append_assoc old (map f (take i xs)) (f x ∷ [])
    ∙ ap (λ l. old ++ l) (ap (λ y. map f (take i xs) ++ f y ∷ []) is ∙ sym (map_more f xs i x lt))

pub joined-more : {X Y : Type 0} (f : X → List Y) (old mid new : List Y) (xs : List X) (i : ℕ) (x : X) → i < length xs → x ≡ get_or xs i x
    → mid ≡ old ++ flat_map f (take i xs) → new ≡ mid ++ f x → new ≡ old ++ flat_map f (take (i + 1) xs)
joined-more f old mid new xs i x lt is before next =
    next ∙ ap (λ l. l ++ f x) before ∙ flat_map_more f old (take i xs) x
    ∙ ap (λ ys. old ++ flat_map f ys) (ap (λ y. take i xs ++ y ∷ []) is ∙ sym (take_more xs i x lt))
