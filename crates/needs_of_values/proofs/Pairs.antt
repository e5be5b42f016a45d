-- The last two of a list.
use Rattle.std.proofs.Common.{◌≡◌, ◌++◌, ◌-◌, ◌+◌, ◌<◌, ◌≤◌, ◌∙◌, ap, append_assoc, arith, drop, get_or, ℕ, List, [], ◌∷◌, length, refl, subst, sym}
use Rattle.std.proofs.lemmas.List.{drop_all, drop_more, length-append}
use Rattle.std.proofs.Math.Seq.{drop-append_seam}
use Rattle.check_words.specs.State.{AreLast}
use Rattle.check_words.proofs.LastOnes.{split-last}

module _ {A : Type 0} where
  last-drop : (xs : List A) (b : A) → 1 ≤ length xs → b ≡ get_or xs (length xs - 1) b → drop (length xs - 1) xs ≡ b ∷ []
  last-drop xs b le is =
      let lt : length xs - 1 < length xs = omega (arith, le) in
      let end : length xs ≤ length xs - 1 + 1 = omega (arith, le) in
      drop_more xs (length xs - 1) b lt ∙ ap (λ x. x ∷ drop (length xs - 1 + 1) xs) (sym is) ∙ ap (λ ys. b ∷ ys) (drop_all (length xs - 1 + 1) xs end)

  -- those at the last two places
  pub two-at : (xs : List A) (a b : A) → 2 ≤ length xs → a ≡ get_or xs (length xs - 2) a → b ≡ get_or xs (length xs - 1) b → AreLast xs 2 (a ∷ b ∷ [])
  two-at xs a b le first second =
      let lt : length xs - 2 < length xs = omega (arith, le) in
      let e : length xs - 2 + 1 ≡ length xs - 1 = omega (arith, le) in
      let some : 1 ≤ length xs = omega (arith, le) in
      split-last 2 xs (a ∷ b ∷ []) le
      (sym
      (drop_more xs (length xs - 2) a lt ∙ ap (λ x. x ∷ drop (length xs - 2 + 1) xs) (sym first) ∙ ap (λ i. a ∷ drop i xs) e ∙ ap (λ ys. a ∷ ys) (last-drop xs b some second)))

  are-drop : (xs ys : List A) (count : ℕ) → AreLast xs count ys → ys ≡ drop (length xs - count) xs
  are-drop xs ys count l =
      let len : length xs - count ≡ length l.kept = omega (arith, ap length l.is, length-append l.kept ys, l.many) in
      sym (ap (λ n. drop n xs) len ∙ ap (λ zs. drop (length l.kept) zs) l.is ∙ drop-append_seam l.kept ys)

  -- there are no others
  pub same-last : (xs ys zs : List A) (count : ℕ) → AreLast xs count ys → AreLast xs count zs → ys ≡ zs
  same-last xs ys zs count l m = are-drop xs ys count l ∙ sym (are-drop xs zs count m)

  pub two-of-three : (xs : List A) (a b c : A) → AreLast xs 3 (a ∷ b ∷ c ∷ []) → AreLast xs 2 (b ∷ c ∷ [])
  two-of-three xs a b c l = record { kept = l.kept ++ a ∷ []; is = l.is ∙ sym (append_assoc l.kept (a ∷ []) (b ∷ c ∷ [])); many = refl }

-- what holds of the two members of a list
abbrev pub OfTwo : {A : Type 0} → (A → A → Type 0) → List A → Type 0
OfTwo P [] = ⊥
OfTwo P (a ∷ []) = ⊥
OfTwo P (a ∷ b ∷ []) = P a b
OfTwo P (a ∷ b ∷ c ∷ xs) = ⊥

-- what holds of the last two holds of them by whatever names
pub holds-too : {A : Type 0} (P : A → A → Type 0) (xs : List A) (a b c d : A) → AreLast xs 2 (a ∷ b ∷ []) → P a b → AreLast xs 2 (c ∷ d ∷ []) → P c d
holds-too P xs a b c d l p m = subst (OfTwo P) (same-last xs (a ∷ b ∷ []) (c ∷ d ∷ []) 2 l m) p
