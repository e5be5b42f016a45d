-- Decimal digits, and the numbers that they write.
use Rattle.std.proofs.Common.{◌≡◌, ◌∙◌, ◌≤◌, ◌<◌, ◌^◌, ℕ, List, [], ◌∷◌, ◌&&◌, true, false, Option, Result, Ok, Err, arith, length, refl, ap, sym, subst}
use Rattle.std.specs.Prelude.{MatchOption, OkIff}
use Rattle.std.specs.Char.{is_ascii_digit}
use Rattle.std.specs.List.{list_all}
use Rattle.std.specs.Result.{result_ok}
use Rattle.std.specs.Str.{all_ascii_digits}
use Rattle.std.specs.Str.Parse.{ParsesUnsigned, digits_value}
use Rattle.std.proofs.lemmas.Bool.{false≢true}
use Rattle.std.proofs.lemmas.Str.Parse.{IsNumeralModel, numerals_by_value, parse_digits, tells_all_ascii_digits}
use Rattle.command_words.specs.Commands.{IsNumber}
use Rattle.command_words.specs.declared.command.TheConstants.{MOST_DIGITS}
use Rattle.command_words.specs.inner.Choices.{NoNumber}

all-digits : (digits : List ℕ) → list_all is_ascii_digit digits ≡ all_ascii_digits digits
all-digits [] = refl
all-digits (c ∷ cs) = ap (λ b. is_ascii_digit c && b) (all-digits cs)

own : IsNumeralModel (λ digits. all_ascii_digits digits ≡ true) (digits_value 10)
own = numerals_by_value (λ digits. all_ascii_digits digits ≡ true) tells_all_ascii_digits

-- what is read of digits, of which there aren't too many
pub number-read : {E : Type 0} (digits : List ℕ) (r : Result ℕ E) (found : Option ℕ) → list_all is_ascii_digit digits ≡ true → length digits ≤ MOST_DIGITS
    → ParsesUnsigned 64 10 digits r → found ≡ result_ok r → MatchOption found (NoNumber digits) (λ n. IsNumber digits n)
number-read {E} digits r found all few parses e =
    subst (λ o. MatchOption o (NoNumber digits) (λ n. IsNumber digits n)) (sym e) (by r (parse_digits own 64 digits r parses digits-all))
  where
    digits-all : all_ascii_digits digits ≡ true
    digits-all = sym (all-digits digits) ∙ all

    by : (q : Result ℕ E) → OkIff q ((0 < length digits) × (digits_value 10 digits < 2 ^ 64)) (digits_value 10 digits)
        → MatchOption (result_ok q) (NoNumber digits) (λ n. IsNumber digits n)
    by (Ok n) (fits, value) = record {
      some = fits.0;
      few = few;
      decimal = digits-all;
      value = value;
      small = subst (λ m. m < 2 ^ 64) (sym value) fits.1;
    }
    by (Err x) none = λ n number. none (number.some, subst (λ m. m < 2 ^ 64) number.value number.small)

-- too many of them, or other characters, are no number
pub too-many : (digits : List ℕ) → MOST_DIGITS < length digits → NoNumber digits
too-many digits many n number = absurd (omega (arith, many, number.few))

pub no-digits : (digits : List ℕ) → list_all is_ascii_digit digits ≡ false → NoNumber digits
no-digits digits other n number = false≢true (sym other ∙ all-digits digits ∙ number.decimal)
