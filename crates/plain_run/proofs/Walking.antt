-- Lists that are walked from front to back.
use Rattle.std.proofs.Common.{◌≡◌, ◌∙◌, ◌+◌, ◌<◌, ℕ, suc, List, [], ◌∷◌, ◌++◌, drop, length, take, get_or, arith, sym, ap}
use Rattle.std.proofs.lemmas.List.{take_more}
use Rattle.std.proofs.Math.Seq.{drop-cons}
use Rattle.op_model.specs.Common.{Strand, IsActive}
use Rattle.plain_run.specs.Strands.{all_woken, stands_so}
use Rattle.plain_run.proofs.Settling.{woken-then}

pub take-more : {X : Type 0} (xs : List X) (i : ℕ) (x : X) → i < length xs → x ≡ get_or xs i x → take (i + 1) xs ≡ take i xs ++ x ∷ []
take-more xs i x l e = take_more xs i x l ∙ ap (λ y. take i xs ++ y ∷ []) (sym e)

pub rest-one : {X : Type 0} (xs : List X) (i : ℕ) (x : X) → i < length xs → x ≡ get_or xs i x → drop i xs ≡ x ∷ drop (i + 1) xs
rest-one xs i x l e = drop-cons xs i x l ∙ (λ j. sym e j ∷ drop (let q : suc i ≡ i + 1 = omega arith in q j) xs)

-- ---- those who wake, one after another

pub wake-more : (ns : List ℕ) (i : ℕ) (ss now next : List Strand) → i < length ns → now ≡ all_woken (take i ns) ss → next ≡ stands_so now (get_or ns i 0) IsActive → next ≡ all_woken (take (i + 1) ns) ss
wake-more ns i ss now next l h s =
    s ∙ (ap (λ xs. stands_so xs (get_or ns i 0) IsActive) h ∙ sym (ap (λ ms. all_woken ms ss) (take_more ns i 0 l) ∙ woken-then (take i ns) (get_or ns i 0 ∷ []) ss))
