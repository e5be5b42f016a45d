-- Ints that texts write, by their bytes.
use Rattle.std.proofs.Common.{◌≡◌, ◌≢◌, ◌∙◌, ◌+◌, ◌-◌, ◌*◌, ◌^◌, ◌<◌, ◌≤◌, ◌==◌, ◌&&◌, ◌++◌, ℕ, ℤ, pos, Bool, true, false, List, [], ◌∷◌, Option, Some, None, Result, Ok, Err, get_or, length, length-append, nat_le, refl, sym, ap, subst, arith, eqb-true}
use Rattle.std.specs.Prelude.{encode_utf8_all, if◌then◌else◌, neg_ℤ, option_map, OkIff}
use Rattle.std.specs.Char.{digit_value}
use Rattle.std.specs.Str.Parse.{AllDigits, ParsesSigned, digits_value, digits_value_after}
use mir.Syntax.{w64}
use Rattle.std.proofs.Math.Utf8.{encode}
use Rattle.std.proofs.lemmas.Str.{char_from_byte, digit_value_digit, encode_ascii, len_utf8_bounds, length-encode}
use Rattle.std.proofs.lemmas.Str.Parse.{digit_at, IsNumeralModel, numerals_by_value, parse_signed_minus, parse_signed_plain, parse_signed_plus, tells_digits}
use Rattle.std.proofs.lemmas.Int.{ints}
use Rattle.std.proofs.lemmas.Bool.{eqb-false, leb-false, leb-true}
use Rattle.bal_base.specs.Valid.{IsInt}
use Rattle.op_model.specs.Strings.{int_in, is_between, number_in, number_on}
use Rattle.plain_library.specs.Ints.{IsIntOf}

-- ---- digits

-- the bytes behind those of a number are digits that go on to this one, or they are not all digits
abbrev GoesOn : ℕ → List ℕ → Option ℕ → Type 0
GoesOn n bs (Some m) = AllDigits 10 bs × (digits_value_after 10 n bs ≡ m)
GoesOn n bs None = ¬ (AllDigits 10 bs)

-- where it is a digit by its number
between-true : (c : ℕ) → is_between 48 57 c ≡ true → (48 ≤ c) × (c ≤ 57)
between-true c e = by (nat_le 48 c) (nat_le c 57) refl refl e
  where
    by : (a b : Bool) → nat_le 48 c ≡ a → nat_le c 57 ≡ b → (a && b) ≡ true → (48 ≤ c) × (c ≤ 57)
    by true true p q r = (leb-true 48 c p, leb-true c 57 q)
    by true false p q r = absurd cc
    by false b p q r = absurd cc

between-false : (c : ℕ) → is_between 48 57 c ≡ false → 48 ≤ c → c ≤ 57 → ⊥
between-false c e low high = by (nat_le 48 c) (nat_le c 57) refl refl e
  where
    by : (a b : Bool) → nat_le 48 c ≡ a → nat_le c 57 ≡ b → (a && b) ≡ false → ⊥
    by true true p q r = cc
    by true false p q r = let h = leb-false c 57 q in omega arith
    by false b p q r = let h = leb-false 48 c p in omega arith

size-first : (c : ℕ) (rest : List ℕ) → 0 < length (encode c ++ rest)
size-first c rest = let h = len_utf8_bounds c in omega (arith, length-append (encode c) rest, length-encode c, h.0)

-- the first byte of a character that is no digit is none
no-digit : (c : ℕ) (rest : List ℕ) → is_between 48 57 c ≡ false → ¬ (AllDigits 10 (encode c ++ rest))
no-digit c rest e all =
    let bs = encode c ++ rest in
    let size = size-first c rest in
    let first = digit_at bs 0 all size in
    let ascii : get_or bs 0 0 < 128 = omega (arith, first.1) in
    let same : c ≡ get_or bs 0 0 = char_from_byte bs rest c refl ascii size in
    let low : 48 ≤ c = omega (arith, same, first.0) in
    let high : c ≤ 57 = omega (arith, same, first.1) in
    between-false c e low high

digits-on : (n : ℕ) (cs : List ℕ) → GoesOn n (encode_utf8_all cs) (number_on n cs)
digits-on n [] = (tt, refl)
digits-on n (c ∷ cs) = by (digits-on (10 * n + (c - 48)) cs) (is_between 48 57 c) refl
  where
    rest : List ℕ
    rest = encode_utf8_all cs

    next : ℕ
    next = 10 * n + (c - 48)

    more : (48 ≤ c) → (c ≤ 57) → (o : Option ℕ) → GoesOn next rest o → GoesOn n (c ∷ rest) o
    more low high (Some m) (all, is) =
        let digit = digit_value_digit c (low, high) in
        let small : digit_value c < 10 = omega (arith, digit) in
        let same : n * 10 + digit_value c ≡ next = omega (arith, digit) in
        ((small, all), ap (λ k. digits_value_after 10 k rest) same ∙ is)
    more low high None h = λ all. h all.1

    by : GoesOn next rest (number_on next cs) → (b : Bool) → is_between 48 57 c ≡ b → GoesOn n (encode c ++ rest) (if b then number_on next cs else None)
    by behind true e =
        let at = between-true c e in
        let ascii : c < 128 = omega (arith, at.1) in
        subst (λ bs. GoesOn n (bs ++ rest) (number_on next cs)) (sym (encode_ascii c ascii)) (more at.0 at.1 (number_on next cs) behind)
    by behind false e = no-digit c rest e

-- ---- digits alone

own : IsNumeralModel (AllDigits 10) (digits_value 10)
own = numerals_by_value (AllDigits 10) tells_digits

-- the bytes are one or more digits that write this number, or they are no such digits
abbrev Numeral : List ℕ → Option ℕ → Type 0
Numeral bs (Some m) = AllDigits 10 bs × (0 < length bs) × (digits_value 10 bs ≡ m)
Numeral bs None = ¬ (AllDigits 10 bs × (0 < length bs))

numeral : (cs : List ℕ) → Numeral (encode_utf8_all cs) (number_in cs)
numeral [] = λ h. omega (arith, h.1)
numeral (c ∷ cs) = by (number_on 0 (c ∷ cs)) (digits-on 0 (c ∷ cs))
  where
    by : (o : Option ℕ) → GoesOn 0 (encode_utf8_all (c ∷ cs)) o → Numeral (encode_utf8_all (c ∷ cs)) o
    by (Some m) (all, is) = (all, size-first c (encode_utf8_all cs), is)
    by None h = λ x. h x.0

-- ---- ints

abbrev given : {E : Type 0} → Result ℤ E → Option ℤ
given (Ok n) = Some n
given (Err e) = None

int-small : (m : ℕ) → m < 2 ^ 63 → IsInt (pos m)
int-small m h = (omega (arith, ints, h), omega (arith, ints, h))

small-int : (m : ℕ) → IsInt (pos m) → m < 2 ^ 63
small-int m h = let high = h.1 in omega (arith, ints)

int-negative : (m : ℕ) → m ≤ 2 ^ 63 → IsInt (neg_ℤ (pos m))
int-negative m h = (omega (arith, ints, h), omega (arith, ints, h))

negative-int : (m : ℕ) → IsInt (neg_ℤ (pos m)) → m ≤ 2 ^ 63
negative-int m h = let low = h.0 in omega (arith, ints)

module _ {E : Type 0} (bs : List ℕ) where
  positive : (o : Option ℕ) (r : Result ℤ E) → Numeral bs o → OkIff r (AllDigits 10 bs × (0 < length bs) × (digits_value 10 bs < 2 ^ 63)) (pos (digits_value 10 bs)) → IsIntOf (option_map (λ n. pos n) o) (given r)
  positive (Some m) (Ok n) (all, size, is) ((every, some, small), e) =
      (int-small m (subst (λ k. k < 2 ^ 63) is small), e ∙ ap (λ k. pos k) is)
  positive (Some m) (Err x) (all, size, is) h = λ int. h (all, size, subst (λ k. k < 2 ^ 63) (sym is) (small-int m int))
  positive None (Ok n) none ((all, size, small), e) = absurd (none (all, size))
  positive None (Err x) none h = tt

  negative : (o : Option ℕ) (r : Result ℤ E) → Numeral bs o → OkIff r (AllDigits 10 bs × (0 < length bs) × (digits_value 10 bs ≤ 2 ^ 63)) (neg_ℤ (pos (digits_value 10 bs))) → IsIntOf (option_map (λ n. neg_ℤ (pos n)) o) (given r)
  negative (Some m) (Ok n) (all, size, is) ((every, some, small), e) =
      (int-negative m (subst (λ k. k ≤ 2 ^ 63) is small), e ∙ ap (λ k. neg_ℤ (pos k)) is)
  negative (Some m) (Err x) (all, size, is) h = λ int. h (all, size, subst (λ k. k ≤ 2 ^ 63) (sym is) (negative-int m int))
  negative None (Ok n) none ((all, size, small), e) = absurd (none (all, size))
  negative None (Err x) none h = tt

-- ---- the bytes of a text

module _ {E : Type 0} (c : ℕ) (cs : List ℕ) (r : Result ℤ E) where
  abbrev Parsed : List ℕ → Type 0
  Parsed bs = ParsesSigned w64 10 bs r

  plus : c ≡ 43 → Parsed (encode c ++ encode_utf8_all cs) → IsIntOf (option_map (λ n. pos n) (number_in cs)) (given r)
  plus is h =
      let ascii : c < 128 = omega (arith, is) in
      let here = subst (λ bs. Parsed (bs ++ encode_utf8_all cs)) (encode_ascii c ascii) h in
      positive (encode_utf8_all cs) (number_in cs) r (numeral cs) (parse_signed_plus own w64 (c ∷ encode_utf8_all cs) r here is)

  minus : c ≡ 45 → Parsed (encode c ++ encode_utf8_all cs) → IsIntOf (option_map (λ n. neg_ℤ (pos n)) (number_in cs)) (given r)
  minus is h =
      let ascii : c < 128 = omega (arith, is) in
      let here = subst (λ bs. Parsed (bs ++ encode_utf8_all cs)) (encode_ascii c ascii) h in
      negative (encode_utf8_all cs) (number_in cs) r (numeral cs) (parse_signed_minus own w64 (c ∷ encode_utf8_all cs) r here is)

  -- the first byte of another character is another one
  other-byte : (x : ℕ) → x < 128 → c ≢ x → get_or (encode c ++ encode_utf8_all cs) 0 0 ≢ x
  other-byte x small other same =
      let bs = encode c ++ encode_utf8_all cs in
      let ascii : get_or bs 0 0 < 128 = omega (arith, same, small) in
      other (char_from_byte bs (encode_utf8_all cs) c refl ascii (size-first c (encode_utf8_all cs)) ∙ same)

  plain : c ≢ 43 → c ≢ 45 → Parsed (encode c ++ encode_utf8_all cs) → IsIntOf (option_map (λ n. pos n) (number_in (c ∷ cs))) (given r)
  plain p m h =
      let low : 43 < 128 = omega arith in
      let high : 45 < 128 = omega arith in
      positive (encode c ++ encode_utf8_all cs) (number_in (c ∷ cs)) r (numeral (c ∷ cs)) (parse_signed_plain own w64 (encode c ++ encode_utf8_all cs) r h (other-byte 43 low p) (other-byte 45 high m))

  signed : Parsed (encode c ++ encode_utf8_all cs) → IsIntOf (int_in (c ∷ cs)) (given r)
  signed h = by-plus (c == 43) refl
    where
      by-minus : c ≢ 43 → (b : Bool) → (c == 45) ≡ b → IsIntOf (if b then option_map (λ n. neg_ℤ (pos n)) (number_in cs) else option_map (λ n. pos n) (number_in (c ∷ cs))) (given r)
      by-minus p true e = minus (eqb-true c 45 e) h
      by-minus p false e = plain p (eqb-false c 45 e) h

      by-plus : (b : Bool) → (c == 43) ≡ b → IsIntOf (if b then option_map (λ n. pos n) (number_in cs) else (if c == 45 then option_map (λ n. neg_ℤ (pos n)) (number_in cs) else option_map (λ n. pos n) (number_in (c ∷ cs)))) (given r)
      by-plus true e = plus (eqb-true c 43 e) h
      by-plus false e = by-minus (eqb-false c 43 e) (c == 45) refl

none-written : {E : Type 0} (r : Result ℤ E) → ParsesSigned w64 10 [] r → IsIntOf None (given r)
none-written (Ok n) h = omega (arith, h.0.0.0)
none-written (Err e) h = tt

pub int-written : {E : Type 0} (t bs : List ℕ) (r : Result ℤ E) → encode_utf8_all t ≡ bs → ParsesSigned w64 10 bs r → IsIntOf (int_in t) (given r)
int-written t bs r is h = by t (subst (λ x. ParsesSigned w64 10 x r) (sym is) h)
  where
    by : (t : List ℕ) → ParsesSigned w64 10 (encode_utf8_all t) r → IsIntOf (int_in t) (given r)
    by [] h = none-written r h
    by (c ∷ cs) h = signed c cs r h
