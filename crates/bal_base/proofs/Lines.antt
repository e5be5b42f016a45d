-- What one more code point does to the line and the column.
use Rattle.std.proofs.Common.{◌≡◌, ◌≢◌, ℕ, ◌+◌, ◌≤◌, List, length, [], ◌∷◌, ◌++◌, Bool, cond, eqb, not, reverse, IsUtf8, chars, ap, arith}
use Rattle.std.specs.List.{suffix_len, prefix_len}
use Rattle.std.proofs.lemmas.List.{reverse-append}
use Rattle.std.proofs.lemmas.List.Sums.{sum_by_push, count_by-le-length, suffix_len-le-length}
use Rattle.std.proofs.lemmas.Str.{length-le-encodes, encodes-chars}
use Rattle.std.proofs.lemmas.Bool.Decides.{nat_tests}
use Rattle.bal_base.specs.Place.{line_after, column_after}

suffix_len-push : (p : ℕ → Bool) (xs : List ℕ) (x : ℕ) → suffix_len p (xs ++ x ∷ []) ≡ prefix_len p (x ∷ reverse xs)
suffix_len-push p xs x = ap (prefix_len p) (reverse-append xs (x ∷ []))

-- after a line feed a new line begins
pub line-feed : (before : List ℕ) (c : ℕ) → c ≡ 10 → (line_after (before ++ c ∷ []) ≡ line_after before + 1) × (column_after (before ++ c ∷ []) ≡ 1)
line-feed before c e = (grind (arith, nat_tests, sum_by_push (λ x. cond (eqb x 10) 1 0) before c), grind (arith, nat_tests, suffix_len-push (λ x. not (eqb x 10)) before c))

-- any other code point is one more column
pub other-point : (before : List ℕ) (c : ℕ) → c ≢ 10 → (line_after (before ++ c ∷ []) ≡ line_after before) × (column_after (before ++ c ∷ []) ≡ column_after before + 1)
other-point before c n = (grind (arith, nat_tests, sum_by_push (λ x. cond (eqb x 10) 1 0) before c), grind (arith, nat_tests, suffix_len-push (λ x. not (eqb x 10)) before c))

pub line-small : (before : List ℕ) → line_after before ≤ length before + 1
line-small before = omega (arith, count_by-le-length (λ c. eqb c 10) before)

pub column-small : (before : List ℕ) → column_after before ≤ length before + 1
column-small before = omega (arith, suffix_len-le-length (λ c. not (eqb c 10)) before)

-- a text has no more characters than bytes
pub chars-short : (bs : List ℕ) → IsUtf8 bs → length (chars bs) ≤ length bs
chars-short bs u = omega (arith, length-le-encodes (chars bs), ap length (encodes-chars bs u))
