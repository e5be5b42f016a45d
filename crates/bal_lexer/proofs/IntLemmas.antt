-- The int that digits write, as std reads it.
use Rattle.std.proofs.Common.{◌≡◌, ℕ, ◌<◌, ◌≤◌, true, false, cond, not, ◌&&◌, ◌==◌, nat_lt, nat_le, List, [], ◌∷◌, length, Some, None, Result, Ok, Err, ℤ, pos, neg_ℤ, IsUtf8, chars, inl, inr, refl, subst, arith, w64}
use Rattle.std.specs.Prelude.{FitsSigned}
use Rattle.std.specs.Result.{OkIff}
use Rattle.std.specs.Char.{digit_value, is_digit, is_ascii_digit, is_ascii_hexdigit}
use Rattle.std.specs.List.{list_all}
use Rattle.std.specs.Str.Parse.{AllDigits, IsNumeral, ParsesSigned, digits_value, without_leading_sign, starts_with_minus}
use Rattle.std.proofs.lemmas.Bool.{and_parts, and_from, ltb-true, leb-true, lt-ltb, le-leb, cases_Bool, ne_eqb}
use Rattle.std.proofs.lemmas.Bool.Decides.{nat_tests}
use Rattle.std.proofs.lemmas.Int.{ints}
use Rattle.unicode_ident.specs.Ident.{is_xid_continue}
use Rattle.bal_base.specs.Limits.{greatest_int}
use Rattle.bal_base.specs.declared.token.TokenKind.TheVariants as kind
use Rattle.bal_lexer.specs.declared.lexeme.Lexeme.TheVariants.{Token}
use Rattle.bal_lexer.specs.Lexemes.{begins_with}
use Rattle.bal_lexer.specs.Numbers.{int_at}
use Rattle.bal_lexer.proofs.Ascii.{all_ascii, bytes-ascii}

-- a digit in a base of up to sixteen is a character of ASCII, and no sign
pub digit-range : (c radix : ℕ) → radix ≤ 16 → is_digit c radix ≡ true → (48 ≤ c) × (c < 103)
digit-range c radix small digit =
    let lt = ltb-true (digit_value c) radix digit in
    (grind (arith, nat_tests), grind (arith, nat_tests))

pub is_digit-decimal : (c : ℕ) → is_ascii_digit c ≡ true → is_digit c 10 ≡ true
is_digit-decimal c digit = grind (arith, nat_tests)

pub is_digit-hexadecimal : (c : ℕ) → is_ascii_hexdigit c ≡ true → is_digit c 16 ≡ true
is_digit-hexadecimal c digit = grind (arith, nat_tests)

pub fits-pos : (n : ℕ) → FitsSigned w64 (pos n) → n ≤ greatest_int
fits-pos n fits = omega (arith, ints)

pub fits-from : (n : ℕ) → n ≤ greatest_int → FitsSigned w64 (pos n)
fits-from n small = omega (arith, ints)

pub all-digits : (radix : ℕ) (ds : List ℕ) → radix ≤ 16 → list_all (λ c. is_digit c radix) ds ≡ true → AllDigits radix ds × (all_ascii ds ≡ true)
all-digits radix [] small all = (tt, refl)
all-digits radix (d ∷ ds) small all =
    let parts = and_parts (is_digit d radix) (list_all (λ c. is_digit c radix) ds) all in
    let range = digit-range d radix small parts.0 in
    let more = all-digits radix ds small parts.1 in
    let ascii : nat_lt d 128 ≡ true = lt-ltb d 128 (omega arith) in
    ((ltb-true (digit_value d) radix parts.0, more.0), and_from (nat_lt d 128) (all_ascii ds) ascii more.1)

signless : (radix : ℕ) (ds : List ℕ) → radix ≤ 16 → list_all (λ c. is_digit c radix) ds ≡ true → (starts_with_minus ds ≡ false) × (without_leading_sign ds ≡ ds)
signless radix [] small all = (refl, refl)
signless radix (d ∷ ds) small all =
    let parts = and_parts (is_digit d radix) (list_all (λ c. is_digit c radix) ds) all in
    let range = digit-range d radix small parts.0 in
    let minus : (d == 45) ≡ false = ne_eqb d 45 (λ e. omega arith) in
    let plus : (d == 43) ≡ false = ne_eqb d 43 (λ e. omega arith) in
    (minus, rw (minus, plus) refl)

pub OkIff-same : {T E : Type 0} (r : Result T E) (P Q : Type 0) (v : T) → (P → Q) → (Q → P) → OkIff r P v → OkIff r Q v
OkIff-same (Ok x) P Q v to from h = (to h.0, h.1)
OkIff-same (Err e) P Q v to from h = λ q. h (from q)

-- reading digits gives their number where there is a digit and the number is an int
pub reads-int : {E : Type 0} (radix : ℕ) (s : List ℕ) (r : Result ℤ E) → radix ≤ 16 → IsUtf8 s → list_all (λ c. is_digit c radix) (chars s) ≡ true → ParsesSigned w64 radix s r
    → OkIff r ((0 < length (chars s)) × (digits_value radix (chars s) ≤ greatest_int)) (pos (digits_value radix (chars s)))
reads-int radix s r small text all parses =
    let ds = chars s in
    let parts = all-digits radix ds small all in
    let same : s ≡ ds = bytes-ascii s ds text parts.1 refl in
    let read : ParsesSigned w64 radix ds r = subst (λ t. ParsesSigned w64 radix t r) same parses in
    let sign = signless radix ds small all in
    let plain : OkIff r (IsNumeral radix ds × FitsSigned w64 (pos (digits_value radix ds))) (pos (digits_value radix ds)) =
    subst (λ t. OkIff r (IsNumeral radix t × FitsSigned w64 (pos (digits_value radix t))) (pos (digits_value radix t))) sign.1
    (subst (λ b. OkIff r (IsNumeral radix (without_leading_sign ds) × FitsSigned w64 (cond b (neg_ℤ (pos (digits_value radix (without_leading_sign ds)))) (pos (digits_value radix (without_leading_sign ds))))) (cond b (neg_ℤ (pos (digits_value radix (without_leading_sign ds)))) (pos (digits_value radix (without_leading_sign ds))))) sign.0 read) in
    OkIff-same r _ _ _ (λ h. (h.0.0, fits-pos _ h.1)) (λ h. ((h.0, parts.0), fits-from _ h.1)) plain

pub int_at-some : (radix : ℕ) (digits after : List ℕ) → begins_with is_xid_continue after ≡ false → 0 < length digits → digits_value radix digits ≤ greatest_int
    → int_at radix digits after ≡ Some (Token (kind.Int (pos (digits_value radix digits))), after)
unfolding int_at
int_at-some radix digits after ends some small =
    rw (ends, lt-ltb 0 (length digits) some, le-leb (digits_value radix digits) greatest_int small) refl

pub int_at-none : (radix : ℕ) (digits after : List ℕ) → ((0 < length digits) × (digits_value radix digits ≤ greatest_int) → ⊥) → int_at radix digits after ≡ None
unfolding int_at
int_at-none radix digits after bad =
    elim (cases_Bool ((not (begins_with is_xid_continue after) && nat_lt 0 (length digits)) && nat_le (digits_value radix digits) greatest_int)) [
      | inl all ↦
          let parts = and_parts (not (begins_with is_xid_continue after) && nat_lt 0 (length digits)) (nat_le (digits_value radix digits) greatest_int) all in
          let front = and_parts (not (begins_with is_xid_continue after)) (nat_lt 0 (length digits)) parts.0 in
          absurd (bad (ltb-true 0 (length digits) front.1, leb-true (digits_value radix digits) greatest_int parts.1))
      | inr fails ↦ rw fails refl
    ]
