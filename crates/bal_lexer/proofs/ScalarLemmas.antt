-- The character that hexadecimal digits write, as std reads it.
use Rattle.std.proofs.Common.{◌≡◌, ℕ, ◌<◌, ◌≤◌, ◌^◌, true, false, ◌==◌, nat_lt, List, [], ◌∷◌, length, Option, Some, None, Result, IsUtf8, chars, refl, ap, subst, arith}
use Rattle.std.specs.Result.{OkIff}
use Rattle.std.specs.Option.{SomeIff}
use Rattle.std.specs.Char.{is_digit, is_ascii_hexdigit, IsScalar}
use Rattle.std.specs.List.{list_all}
use Rattle.std.specs.Str.Parse.{IsNumeral, ParsesUnsigned, digits_value, without_leading_plus}
use Rattle.std.proofs.lemmas.Int.Digits.{digits_value-lt}
use Rattle.std.proofs.Math.Nat.{pow-le-pow_right}
use Rattle.std.proofs.lemmas.Bool.{and_parts, lt-ltb, le-ltb, le-leb, lt-leb, ne_eqb, false_from_ne_true, and_right}
use lib.Utf8.{scalar}
use Rattle.bal_lexer.specs.Strings.{scalar_at}
use Rattle.bal_lexer.proofs.Ascii.{bytes-ascii}
use Rattle.bal_lexer.proofs.Runs.{list_all-weaker}
use Rattle.bal_lexer.proofs.IntLemmas.{digit-range, is_digit-hexadecimal, all-digits, OkIff-same}

plusless : (ds : List ℕ) → list_all (λ c. is_digit c 16) ds ≡ true → without_leading_plus ds ≡ ds
plusless [] all = refl
plusless (d ∷ ds) all =
    let parts = and_parts (is_digit d 16) (list_all (λ c. is_digit c 16) ds) all in
    let range = digit-range d 16 (omega arith) parts.0 in
    let plus : (d == 43) ≡ false = ne_eqb d 43 (λ e. omega arith) in
    rw plus refl

-- up to six hexadecimal digits
pub record AreHex (s : List ℕ) : Type 0 where
  pub text : IsUtf8 s
  pub all : list_all is_ascii_hexdigit (chars s) ≡ true

pub hex-same : (s : List ℕ) → AreHex s → s ≡ chars s
hex-same s hex =
    let all = list_all-weaker is_ascii_hexdigit (λ c. is_digit c 16) (chars s) is_digit-hexadecimal hex.all in
    bytes-ascii s (chars s) hex.text (all-digits 16 (chars s) (omega arith) all).1 refl

pub reads-hex : {E : Type 0} (s : List ℕ) (r : Result ℕ E) → AreHex s → length s ≤ 6 → ParsesUnsigned 32 16 s r → OkIff r (0 < length (chars s)) (digits_value 16 (chars s))
reads-hex s r hex short parses =
    let ds = chars s in
    let all = list_all-weaker is_ascii_hexdigit (λ c. is_digit c 16) ds is_digit-hexadecimal hex.all in
    let digits = (all-digits 16 ds (omega arith) all).0 in
    let same : s ≡ ds = hex-same s hex in
    let read : ParsesUnsigned 32 16 ds r = subst (λ t. ParsesUnsigned 32 16 t r) same parses in
    let plain : OkIff r (IsNumeral 16 ds × (digits_value 16 ds < 2 ^ 32)) (digits_value 16 ds) =
    subst (λ t. OkIff r (IsNumeral 16 t × (digits_value 16 t < 2 ^ 32)) (digits_value 16 t)) (plusless ds all) read in
    let few : length ds ≤ 6 = subst (λ t. length t ≤ 6) same short in
    let bound = digits_value-lt 16 ds digits in
    let positive : 0 < 16 = omega arith in
    let most : 16 ^ length ds ≤ 16 ^ 6 = pow-le-pow_right {n = 16} positive {i = length ds} {j = 6} few in
    let small : digits_value 16 ds < 2 ^ 32 = omega (arith, bound, most) in
    OkIff-same r _ _ _ (λ h. h.0.0) (λ h. ((h, digits), small)) plain

pub scalar_at-long : (digits : List ℕ) → 6 < length digits → None ≡ scalar_at digits
unfolding scalar_at
scalar_at-long digits long = rw (lt-leb (length digits) 6 long, and_right (nat_lt 0 (length digits)) false refl) refl

pub scalar_at-empty : (digits : List ℕ) → (0 < length digits → ⊥) → None ≡ scalar_at digits
unfolding scalar_at
scalar_at-empty digits empty = rw (le-ltb 0 (length digits) (omega arith)) refl

pub scalar_at-is : (digits : List ℕ) (r : Option ℕ) → 0 < length digits → length digits ≤ 6 → SomeIff r (IsScalar (digits_value 16 digits)) (digits_value 16 digits) → r ≡ scalar_at digits
unfolding scalar_at
scalar_at-is digits None some few none = rw (lt-ltb 0 (length digits) some, le-leb (length digits) 6 few, false_from_ne_true (scalar (digits_value 16 digits)) none) refl
scalar_at-is digits (Some c) some few (yes', is) = rw (lt-ltb 0 (length digits) some, le-leb (length digits) 6 few, yes') (ap Some is)
