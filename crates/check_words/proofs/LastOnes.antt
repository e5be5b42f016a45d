-- The last ones of a list, and what stays.
use Rattle.std.proofs.Common.{◌≡◌, ◌++◌, ◌-◌, ◌+◌, ◌≤◌, ◌∙◌, ap, arith, drop, take, length-drop, ℕ, List, [], ◌∷◌, length, sym, append_assoc}
use Rattle.std.proofs.lemmas.List.{length-append, length-take-le, take-append-drop, take-take}
use Rattle.std.proofs.Math.Seq.{take-append_seam}
use Rattle.check_words.specs.State.{AreLast, all_but}

module _ {A : Type 0} where
  pub split-last : (count : ℕ) (xs ys : List A) → count ≤ length xs → ys ≡ drop (length xs - count) xs → AreLast xs count ys
  split-last count xs ys le e =
      record {
        kept = take (length xs - count) xs;
        is = sym (take-append-drop (length xs - count) xs) ∙ ap (λ zs. take (length xs - count) xs ++ zs) (sym e);
        many = omega (arith, ap length e, length-drop (length xs - count) xs);
      }

  -- what stays, where it is told apart
  pub kept-is : (count : ℕ) (xs kept ys : List A) → xs ≡ kept ++ ys → length ys ≡ count → all_but count xs ≡ kept
  kept-is count xs kept ys is many =
      let len : length xs - count ≡ length kept = omega (arith, ap length is, length-append kept ys, many) in
      ap (λ n. take n xs) len ∙ ap (λ zs. take (length kept) zs) is ∙ take-append_seam kept ys

  -- one more before those that are taken
  pub one-before : (count : ℕ) (xs : List A) (x : A) (ys : List A) → AreLast xs count ys → AreLast (all_but count xs) 1 (x ∷ []) → AreLast xs (count + 1) (x ∷ ys)
  one-before count xs x ys l k =
      record {
        kept = k.kept;
        is = l.is ∙ ap (λ zs. zs ++ ys) (sym (kept-is count xs l.kept ys l.is l.many) ∙ k.is) ∙ append_assoc k.kept (x ∷ []) ys;
        many = omega (arith, l.many);
      }

  pub all-but-more : (count : ℕ) (xs : List A) → all_but 1 (all_but count xs) ≡ all_but (count + 1) xs
  all-but-more count xs =
      let short : length (all_but count xs) ≡ length xs - count = length-take-le (length xs - count) xs (omega arith) in
      take-take (length (all_but count xs) - 1) (length xs - count) xs (omega (arith, short)) ∙ ap (λ n. take n xs) (omega (arith, short))
