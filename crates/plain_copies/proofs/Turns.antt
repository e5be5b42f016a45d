-- One turn more of a loop over a list.
use Rattle.std.proofs.Common.{◌≡◌, ◌∙◌, ◌+◌, ◌<◌, ℕ, List, [], ◌∷◌, ◌++◌, get_or, length, sym, take, ap}
use Rattle.std.proofs.lemmas.List.{append_assoc, take_more}

pub item-more : {A : Type 0} (xs : List A) (i : ℕ) (x : A) → i < length xs → x ≡ get_or xs i x → take (i + 1) xs ≡ take i xs ++ x ∷ []
item-more xs i x l e = take_more xs i x l ∙ ap (λ y. take i xs ++ y ∷ []) (sym e)

-- what comes of the items stands behind the old ones
pub joined-more : {A B : Type 0} (g : List A → List B) (xs ys : List A) (x : A) (more old mid new : List B) → g (xs ++ x ∷ []) ≡ g xs ++ more → ys ≡ xs ++ x ∷ [] → mid ≡ old ++ g xs → new ≡ mid ++ more → new ≡ old ++ g ys
joined-more g xs ys x more old mid new one e m n =
    n
    ∙ (ap (λ zs. zs ++ more) m
    ∙ (append_assoc old (g xs) more
    ∙ ap (λ zs. old ++ zs) (sym one ∙ ap g (sym e))))
