-- Which lexemes begin with a character.
use Rattle.std.proofs.Common.{◌≡◌, ℕ, ◌<◌, ◌≤◌, Bool, true, false, cond, ◌||◌, ◌==◌, nat_lt, List, [], ◌∷◌, length, inl, inr, refl, sym, ap, ◌∙◌, subst, arith}
use Rattle.std.specs.Char.{is_ascii_digit, is_ascii_alphabetic}
use Rattle.std.proofs.lemmas.Bool.{and_parts, ltb-true, cases_lt}
use Rattle.std.proofs.lemmas.Bool.Decides.{nat_tests}
use Rattle.unicode_ident.proofs.IdentLemmas.{is_xid_start-ascii}
use Rattle.bal_base.specs.declared.token.TokenKind.TheVariants as kind
use Rattle.bal_base.specs.declared.token.Sign.{Sign as SignOf}
use Rattle.bal_lexer.specs.Spellings.{sign_text}
use Rattle.bal_lexer.specs.declared.lexeme.Lexeme.{Lexeme}
use Rattle.bal_lexer.specs.declared.lexeme.Lexeme.TheVariants.{Token}
use Rattle.bal_lexer.specs.declared.lexeme.Start.{Start}
use Rattle.bal_lexer.specs.declared.lexeme.Start.TheVariants.{White, LeftOutMark, Digit, Quote, Hash, Word, Sign}
use Rattle.bal_lexer.specs.Lexemes.{is_white, starts_word, is_left_out_mark}
use Rattle.bal_lexer.specs.Firsts.{start_of, AtStart}
use Rattle.bal_lexer.proofs.Ascii.{all_ascii}
use Rattle.bal_lexer.proofs.Signs.{sign_ascii, sign_length}

-- the same of a character of ASCII, with no table
abbrev pub ascii_start : ℕ → Start
ascii_start c =
    cond (is_white c) White (cond (is_left_out_mark c) LeftOutMark (cond (is_ascii_digit c) Digit (cond (c == 34) Quote (cond (c == 35) Hash (cond ((c == 95) || is_ascii_alphabetic c) Word Sign)))))

pub start-ascii : (c : ℕ) → c < 128 → start_of c ≡ ascii_start c
start-ascii c small =
    ap (λ b. cond (is_white c) White (cond (is_left_out_mark c) LeftOutMark (cond (is_ascii_digit c) Digit (cond (c == 34) Quote (cond (c == 35) Hash (cond ((c == 95) || b) Word Sign)))))) (is_xid_start-ascii c small)

-- what a word begins with is a letter of ASCII, `_`, or beyond ASCII
word_range : (c : ℕ) → starts_word c ≡ true → (c < 128 → ((c == 95) || is_ascii_alphabetic c) ≡ true)
word_range c starts small = ap (λ b. (c == 95) || b) (sym (is_xid_start-ascii c small)) ∙ starts

-- the tests of a character, as values
abbrev pub by_tests : Bool → Bool → Bool → Bool → Bool → Bool → Start
by_tests white mark digit quote hash word =
    cond white White (cond mark LeftOutMark (cond digit Digit (cond quote Quote (cond hash Hash (cond word Word Sign)))))

tests-word : (white mark digit quote hash word : Bool) → white ≡ false → mark ≡ false → digit ≡ false → quote ≡ false → hash ≡ false → word ≡ true → by_tests white mark digit quote hash word ≡ Word
tests-word white mark digit quote hash word a b c d e f = rw (a, b, c, d, e, f) refl

tests-mark : (white mark digit quote hash word : Bool) → white ≡ false → mark ≡ true → by_tests white mark digit quote hash word ≡ LeftOutMark
tests-mark white mark digit quote hash word a b = rw (a, b) refl

tests-digit : (white mark digit quote hash word : Bool) → white ≡ false → mark ≡ false → digit ≡ true → by_tests white mark digit quote hash word ≡ Digit
tests-digit white mark digit quote hash word a b c = rw (a, b, c) refl

beyond : (c : ℕ) → starts_word c ≡ true → 128 ≤ c → start_of c ≡ Word
beyond c starts large =
    tests-word (is_white c) (is_left_out_mark c) (is_ascii_digit c) (c == 34) (c == 35) (starts_word c) (grind (arith, nat_tests)) (grind (arith, nat_tests)) (grind (arith, nat_tests)) (grind (arith, nat_tests)) (grind (arith, nat_tests)) starts

ascii_word : (c : ℕ) → ((c == 95) || is_ascii_alphabetic c) ≡ true → ascii_start c ≡ Word
ascii_word c letter =
    tests-word (is_white c) (is_left_out_mark c) (is_ascii_digit c) (c == 34) (c == 35) ((c == 95) || is_ascii_alphabetic c) (grind (arith, nat_tests)) (grind (arith, nat_tests)) (grind (arith, nat_tests)) (grind (arith, nat_tests)) (grind (arith, nat_tests)) letter

pub start-word : (c : ℕ) → starts_word c ≡ true → start_of c ≡ Word
start-word c starts = elim (cases_lt c 128) [ inl small ↦ start-ascii c small ∙ ascii_word c (word_range c starts small) | inr large ↦ beyond c starts large ]

pub start-white : (c : ℕ) → is_white c ≡ true → start_of c ≡ White
start-white c white = rw white refl

pub start-mark : (c : ℕ) → is_left_out_mark c ≡ true → start_of c ≡ LeftOutMark
start-mark c mark = tests-mark (is_white c) (is_left_out_mark c) (is_ascii_digit c) (c == 34) (c == 35) (starts_word c) (grind (arith, nat_tests)) mark

pub start-digit : (c : ℕ) → is_ascii_digit c ≡ true → start_of c ≡ Digit
start-digit c digit = tests-digit (is_white c) (is_left_out_mark c) (is_ascii_digit c) (c == 34) (c == 35) (starts_word c) (grind (arith, nat_tests)) (grind (arith, nat_tests)) digit

abbrev pub head : List ℕ → ℕ
head [] = 0
head (c ∷ cs) = c

sign-some : (xs : List ℕ) → 0 < length xs → (c : ℕ) × (cs : List ℕ) × (xs ≡ c ∷ cs)
sign-some [] some = absurd (omega arith)
sign-some (c ∷ cs) some = (c, cs, refl)

head-ascii : (xs : List ℕ) → all_ascii xs ≡ true → 0 < length xs → head xs < 128
head-ascii [] ascii some = absurd (omega arith)
head-ascii (c ∷ cs) ascii some = ltb-true c 128 (and_parts (nat_lt c 128) (all_ascii cs) ascii).0

-- the lexeme begins with a character, and is one of those that begin so
pub record Heads (slice after : List ℕ) (lexeme : Lexeme) : Type 0 where
  pub first : ℕ
  pub others : List ℕ
  pub is : slice ≡ first ∷ others
  pub stands : AtStart (start_of first) slice after lexeme

pub by_start : (start : Start) (slice after : List ℕ) (lexeme : Lexeme) (c : ℕ) (cs : List ℕ) → slice ≡ c ∷ cs → start_of c ≡ start → AtStart start slice after lexeme → Heads slice after lexeme
by_start start slice after lexeme c cs is begins stands = record { first = c; others = cs; is = is; stands = subst (λ k. AtStart k slice after lexeme) (sym begins) stands }

pub heads-sign : (g : SignOf) (start : Start) → ascii_start (head (sign_text g)) ≡ start → (slice after : List ℕ) → slice ≡ sign_text g → AtStart start slice after (Token (kind.Sign g)) → Heads slice after (Token (kind.Sign g))
heads-sign g start begins slice after is stands =
    let some = ltb-true 0 (length (sign_text g)) (sign_length g) in
    let (c, cs, split) = sign-some (sign_text g) some in
    let small : c < 128 = subst (λ d. d < 128) (ap head split) (head-ascii (sign_text g) (sign_ascii g) some) in
    by_start start slice after (Token (kind.Sign g)) c cs (is ∙ split) (start-ascii c small ∙ ap ascii_start (sym (ap head split)) ∙ begins) stands
