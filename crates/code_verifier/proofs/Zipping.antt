-- Two lists of different things, pair by pair, and one pair more.
use Rattle.std.proofs.Common.{◌≡◌, ◌++◌, ◌+◌, ◌<◌, ◌∙◌, ℕ, List, [], ◌∷◌, length, get_or, take, ap, subst, sym}
use Rattle.std.specs.List.{AllZip}
use Rattle.std.proofs.lemmas.List.{take_more}
use Rattle.std.proofs.lemmas.Slice.Zip.{all_zipped_more}

module _ {A B : Type 0} (R : A → B → Type 0) where
  -- of a list the first i + 1
  pub zip-more : (xs : List A) (ys zs : List B) (i : ℕ) (x : A) (y : B) → i < length xs → x ≡ get_or xs i x → AllZip R (take i xs) ys → R x y → zs ≡ ys ++ y ∷ []
      → AllZip R (take (i + 1) xs) zs
  zip-more xs ys zs i x y lt e h r more =
      subst (AllZip R (take (i + 1) xs)) (sym more)
      (subst (λ (us : List A). AllZip R us (ys ++ y ∷ [])) (sym (take_more xs i x lt ∙ ap (λ u. take i xs ++ u ∷ []) (sym e))) (all_zipped_more R (take i xs) ys x y h r))
