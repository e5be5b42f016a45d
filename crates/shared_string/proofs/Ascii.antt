-- Texts of ASCII code points, which are the texts of as many bytes as code points.
use Rattle.std.proofs.Common.{◌≡◌, ◌<◌, ◌≤◌, ◌+◌, ◌↔◌, ℕ, zero, suc, List, [], ◌∷◌, IsTrue, length, drop, nat_eq, slice_range, IsUtf8, chars, sym, ap, subst, ◌∙◌, arith, lit<, length-append}
use Rattle.std.specs.Char.{len_utf8}
use Rattle.std.specs.Str.{IsAscii}
use Rattle.std.proofs.lemmas.Bool.Decides.{nat_tests}
use Rattle.std.proofs.lemmas.Str.{IsAscii-drop, IsAscii-take, chars-IsAscii, encodes-IsAscii, encodes-chars, length-encode, length-le-encodes, len_utf8_bounds}
use lib.Utf8.{encode, encodes}

one-byte : (c : ℕ) → len_utf8 c ≡ 1 → c < 128
one-byte c h = grind (arith, nat_tests)

length-encodes : (c : ℕ) (cs : List ℕ) → length (encodes (c ∷ cs)) ≡ len_utf8 c + length (encodes cs)
length-encodes c cs = length-append (encode c) (encodes cs) ∙ ap (λ n. n + length (encodes cs)) (length-encode c)

-- code points of a byte each are ASCII
IsAscii-from_lengths : (cs : List ℕ) → length (encodes cs) ≡ length cs → IsAscii cs
IsAscii-from_lengths [] e i = lit< tt
IsAscii-from_lengths (c ∷ cs) e zero =
    let one : len_utf8 c ≡ 1 = omega (arith, e, length-encodes c cs, length-le-encodes cs, len_utf8_bounds c) in
    one-byte c one
IsAscii-from_lengths (c ∷ cs) e (suc i) =
    IsAscii-from_lengths cs (omega (arith, e, length-encodes c cs, length-le-encodes cs, len_utf8_bounds c)) i

module _ (bytes : List ℕ) (utf8 : IsUtf8 bytes) where
  pub chars-short : length (chars bytes) ≤ length bytes
  chars-short = subst (λ bs. length (chars bytes) ≤ length bs) (encodes-chars bytes utf8) (length-le-encodes (chars bytes))

  pub IsAscii-from_count : length (chars bytes) ≡ length bytes → IsAscii (chars bytes)
  IsAscii-from_count h = IsAscii-from_lengths (chars bytes) (ap length (encodes-chars bytes utf8) ∙ sym h)

  -- a text of ASCII code points is the list of them
  pub bytes-chars : IsAscii (chars bytes) → bytes ≡ chars bytes
  bytes-chars a = sym (encodes-chars bytes utf8) ∙ encodes-IsAscii (chars bytes) a

  pub IsAscii-bytes : IsAscii (chars bytes) → IsAscii bytes
  IsAscii-bytes a = subst IsAscii (sym (bytes-chars a)) a

equal : (m n : ℕ) → IsTrue (nat_eq m n) ↔ (m ≡ n)
equal m n = grind (arith, nat_tests)

-- a text is of ASCII code points exactly where as many are counted as there are bytes
pub ascii-test : (bytes cs : List ℕ) (points : ℕ) → IsUtf8 bytes → points ≡ length (chars bytes) → chars bytes ≡ cs → IsTrue (nat_eq points (length bytes)) ↔ IsAscii cs
ascii-test bytes cs points u count same =
    let test = equal points (length bytes) in (
      (λ t. subst IsAscii same (IsAscii-from_count bytes u (sym count ∙ test.0 t))),
      (λ a. test.1 (count ∙ ap length (sym (bytes-chars bytes u (subst IsAscii (sym same) a))))),
    )

pub chars-slice_range : (bytes : List ℕ) (i j : ℕ) → IsAscii bytes → chars (slice_range bytes i j) ≡ slice_range (chars bytes) i j
chars-slice_range bytes i j a =
    chars-IsAscii (slice_range bytes i j) (IsAscii-take (drop i bytes) _ (IsAscii-drop bytes i a)) ∙ ap (λ bs. slice_range bs i j) (sym (chars-IsAscii bytes a))
