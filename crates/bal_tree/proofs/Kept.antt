-- What is written comes to the tokens alone, and room for as many as were counted keeps all of them.
use Rattle.std.proofs.Common.{◌≡◌, ◌+◌, ◌-◌, ◌≤◌, ◌<◌, ◌^◌, ℕ, zero, suc, List, [], ◌∷◌, ◌++◌, length, min, take, refl, sym, ap, ◌∙◌, append_assoc, arith}
use Rattle.std.proofs.Math.Seq.{take-length}
use Rattle.std.proofs.lemmas.List.{append-nil}
use Rattle.bal_base.specs.declared.token.TokenKind.{TokenKind}
use Rattle.bal_tree.specs.Pieces.{Pieces, nothing, token, starts, ◌&◌, kinds}
use Rattle.bal_tree.specs.Writing.{Written, behind_all, empty, most, put}

-- tokens one behind another
abbrev put_all : List TokenKind → Written → Written
put_all [] w = w
put_all (k ∷ ks) w = put_all ks (put k w)

put_all-append : (ks ls : List TokenKind) (w : Written) → put_all (ks ++ ls) w ≡ put_all ls (put_all ks w)
put_all-append [] ls w = refl
put_all-append (k ∷ ks) ls w = put_all-append ks ls (put k w)

behind_all-kinds : (p : Pieces) (w : Written) → behind_all p w ≡ put_all (kinds p) w
behind_all-kinds nothing w = refl
behind_all-kinds (token k) w = refl
behind_all-kinds (starts at) w = refl
behind_all-kinds (p & q) w =
    behind_all-kinds q (behind_all p w) ∙ (ap (put_all (kinds q)) (behind_all-kinds p w) ∙ sym (put_all-append (kinds p) (kinds q) w))

pub same-kinds : (p q : Pieces) (w : Written) → kinds p ≡ kinds q → behind_all p w ≡ behind_all q w
same-kinds p q w same = behind_all-kinds p w ∙ (ap (λ ks. put_all ks w) same ∙ sym (behind_all-kinds q w))

-- ---- what is kept, and how many were counted

take-take-append : {X : Type 0} (n : ℕ) (xs ys : List X) → take n (take n xs ++ ys) ≡ take n (xs ++ ys)
take-take-append zero xs ys = refl
take-take-append (suc n) [] ys = refl
take-take-append (suc n) (x ∷ xs) ys = ap (λ zs. x ∷ zs) (take-take-append n xs ys)

put_all-tokens : (ks ts : List TokenKind) (room count : ℕ) → (put_all ks (record { tokens = take room ts; room = room; count = count })).tokens ≡ take room (ts ++ ks)
unfolding put
put_all-tokens [] ts room count = ap (take room) (sym (append-nil ts))
put_all-tokens (k ∷ ks) ts room count =
    ap (λ us. (put_all ks (record { tokens = us; room = room; count = min (count + 1) most })).tokens) (take-take-append room ts (k ∷ []))
    ∙ (put_all-tokens ks (ts ++ k ∷ []) room (min (count + 1) most) ∙ ap (take room) (append_assoc ts (k ∷ []) ks))

counted : (n l : ℕ) → min (min (n + 1) most + l) most ≡ min (n + suc l) most
counted n l = grind arith

put_all-count : (ks : List TokenKind) (w : Written) → w.count ≤ most → (put_all ks w).count ≡ min (w.count + length ks) most
unfolding put
put_all-count [] w small = grind arith
put_all-count (k ∷ ks) w small = put_all-count ks (put k w) (grind arith) ∙ counted w.count (length ks)

take-nil : {X : Type 0} (n : ℕ) → take {A = X} n [] ≡ []
take-nil zero = refl
take-nil (suc n) = refl

module _ (p : Pieces) (first second : Written) where
  -- what is written to an output with room for as many tokens as were counted in another one
  pub all-kept : first ≡ behind_all p (empty 0) → first.count < 2 ^ 63 → second ≡ behind_all p (empty first.count) → second.tokens ≡ kinds p
  all-kept once small again =
      let ks = kinds p in
      let number : first.count ≡ min (0 + length ks) most = ap (λ w. w.count) (once ∙ behind_all-kinds p (empty 0)) ∙ put_all-count ks (empty 0) (omega arith) in
      let all : first.count ≡ length ks = grind arith in
      ap (λ w. w.tokens) (again ∙ behind_all-kinds p (empty first.count))
      ∙ (ap (λ ts. (put_all ks (record { tokens = ts; room = first.count; count = 0 })).tokens) (sym (take-nil first.count))
      ∙ (put_all-tokens ks [] first.count 0 ∙ (ap (λ n. take n ks) all ∙ take-length ks)))
