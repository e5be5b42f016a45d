-- Every lexeme is one of those that begin with its first character.
use Rattle.std.proofs.Common.{◌≡◌, ℕ, Bool, true, false, ◌==◌, List, [], ◌∷◌, ◌++◌, Option, Some, None, inl, inr, refl, sym, ap, ◌∙◌, subst, arith}
use Rattle.std.specs.Prelude.{⊤}
use Rattle.std.specs.List.{list_all}
use Rattle.std.specs.Char.{is_ascii_digit}
use Rattle.std.proofs.lemmas.Bool.{and_parts, eqb-true}
use Rattle.bal_base.specs.declared.token.TokenKind.TheVariants as kind
use Rattle.bal_base.specs.declared.token.Sign.{Sign as SignOf}
use Rattle.bal_base.specs.declared.token.Sign.TheVariants as sign
use Rattle.bal_lexer.specs.Spellings.{sign_text}
use Rattle.bal_lexer.specs.declared.lexeme.Lexeme.{Lexeme}
use Rattle.bal_lexer.specs.declared.lexeme.Lexeme.TheVariants.{Gap, LeftOut, Token}
use Rattle.bal_lexer.specs.declared.lexeme.Start.{Start}
use Rattle.bal_lexer.specs.declared.lexeme.Start.TheVariants.{White, LeftOutMark, Digit, Quote, Hash, Word, Sign}
use Rattle.bal_lexer.specs.Lexemes.{is_white, starts_word, is_left_out_mark, IsLexeme, IsIntLiteral, AreDigits}
use Rattle.bal_lexer.specs.Firsts.{start_of, AtStart, FirstAt, First}
use Rattle.bal_lexer.proofs.Starts.{Heads, by_start, by_tests, heads-sign, start-ascii, start-white, start-mark, start-digit, start-word}

heads-fraction : (slice after digits : List ℕ) (d : ℕ) → slice ≡ digits ++ 46 ∷ d ∷ [] → AreDigits is_ascii_digit digits → AtStart Digit slice after LeftOut → Heads slice after LeftOut
heads-fraction slice after [] d is digits stands = absurd (digits.0 refl)
heads-fraction slice after (x ∷ xs) d is digits stands =
    by_start Digit slice after LeftOut x (xs ++ 46 ∷ d ∷ []) is (start-digit x (and_parts (is_ascii_digit x) (list_all is_ascii_digit xs) digits.1).0) stands

heads-int : (slice after : List ℕ) (lexeme : Lexeme) (n : ℕ) → IsIntLiteral slice n → AtStart Digit slice after lexeme → Heads slice after lexeme
heads-int slice after lexeme n (inl (inl is, value)) stands = by_start Digit slice after lexeme 48 [] is refl stands
heads-int slice after lexeme n (inl (inr (c, cs, is, first, all), value)) stands =
    let digits : list_all is_ascii_digit (c ∷ cs) ≡ true = subst (λ l. list_all is_ascii_digit l ≡ true) is all in
    by_start Digit slice after lexeme c cs is (start-digit c (and_parts (is_ascii_digit c) (list_all is_ascii_digit cs) digits).0) stands
heads-int slice after lexeme n (inr (digits, inl is, hex, value)) stands = by_start Digit slice after lexeme 48 (120 ∷ digits) is refl stands
heads-int slice after lexeme n (inr (digits, inr is, hex, value)) stands = by_start Digit slice after lexeme 48 (88 ∷ digits) is refl stands

heads-of_sign : (g : SignOf) (slice after : List ℕ) → slice ≡ sign_text g → Heads slice after (Token (kind.Sign g))
heads-of_sign sign.Underscore slice after is = heads-sign sign.Underscore Word refl slice after is ((95, [], is, refl, refl), (is, refl))
heads-of_sign g slice after is = heads-sign g Sign refl slice after is (inr (g, refl, is))

pub heads : (slice after : List ℕ) (lexeme : Lexeme) → IsLexeme slice after lexeme → Heads slice after lexeme
heads slice after Gap (inl (c, is, white)) = by_start White slice after Gap c [] is (start-white c white) (refl, (c, is, white))
heads slice after Gap (inr (body, inl is, all)) = by_start Sign slice after Gap 47 (47 ∷ body) is (start-ascii 47 (omega arith)) (inl (refl, (body, is, all)))
heads slice after Gap (inr (body, inr is, all)) = by_start Hash slice after Gap 35 body is refl (refl, (body, is, all))
heads slice after LeftOut (inl ((c, cs, is, starts, all), listed)) = by_start Word slice after LeftOut c cs is (start-word c starts) ((c, cs, is, starts, all), listed)
heads slice after LeftOut (inr (inl (digits, d, is, are, last))) = heads-fraction slice after digits d is are (inl (refl, (digits, d, is, are, last)))
heads slice after LeftOut (inr (inr (c, is, mark))) = by_start LeftOutMark slice after LeftOut c [] is (start-mark c mark) (refl, (c, is, mark))
heads slice after (Token (kind.Word name)) ((c, cs, is, starts, all), free, same) = by_start Word slice after (Token (kind.Word name)) c cs is (start-word c starts) ((c, cs, is, starts, all), (free, same))
heads slice after (Token (kind.Keyword k)) ((c, cs, is, starts, all), means) = by_start Word slice after (Token (kind.Keyword k)) c cs is (start-word c starts) ((c, cs, is, starts, all), means)
heads slice after (Token (kind.Int i)) (n, literal, small, is, ends) = heads-int slice after (Token (kind.Int i)) n literal (inr (n, ap (λ z. Token (kind.Int z)) is, literal, small, ends))
heads slice after (Token (kind.Str text)) (body, is, spells) = by_start Quote slice after (Token (kind.Str text)) 34 (body ++ 34 ∷ []) is refl (text, refl, (body, is, spells))
heads slice after (Token (kind.Sign g)) is = heads-of_sign g slice after is

lexeme-word : (slice after : List ℕ) (lexeme : Lexeme) → AtStart Word slice after lexeme → IsLexeme slice after lexeme
lexeme-word slice after Gap (word, means) = absurd means
lexeme-word slice after LeftOut (word, means) = inl (word, means)
lexeme-word slice after (Token (kind.Word name)) (word, (free, same)) = (word, free, same)
lexeme-word slice after (Token (kind.Keyword k)) (word, means) = (word, means)
lexeme-word slice after (Token (kind.Int i)) (word, means) = absurd means
lexeme-word slice after (Token (kind.Str text)) (word, means) = absurd means
lexeme-word slice after (Token (kind.Sign g)) (word, means) = means.0

-- what stands so is a lexeme
pub lexeme-from : (start : Start) (slice after : List ℕ) (lexeme : Lexeme) → AtStart start slice after lexeme → IsLexeme slice after lexeme
lexeme-from White slice after lexeme (is, white) = subst (IsLexeme slice after) (sym is) (inl white)
lexeme-from LeftOutMark slice after lexeme (is, mark) = subst (IsLexeme slice after) (sym is) (inr (inr mark))
lexeme-from Digit slice after lexeme (inl (is, fraction)) = subst (IsLexeme slice after) (sym is) (inr (inl fraction))
lexeme-from Digit slice after lexeme (inr (n, is, literal, small, ends)) = subst (IsLexeme slice after) (sym is) (n, literal, small, refl, ends)
lexeme-from Quote slice after lexeme (text, is, literal) = subst (IsLexeme slice after) (sym is) literal
lexeme-from Hash slice after lexeme (is, (body, split, all)) = subst (IsLexeme slice after) (sym is) (inr (body, inr split, all))
lexeme-from Word slice after lexeme stands = lexeme-word slice after lexeme stands
lexeme-from Sign slice after lexeme (inl (is, (body, split, all))) = subst (IsLexeme slice after) (sym is) (inr (body, inl split, all))
lexeme-from Sign slice after lexeme (inr (g, is, split)) = subst (IsLexeme slice after) (sym is) split

-- a lexeme at the text's front is one of those that begin with the text's first character
pub at_start : (start : Start) (text : List ℕ) (c : ℕ) (cs slice after : List ℕ) (lexeme : Lexeme) → text ≡ c ∷ cs → start_of c ≡ start → text ≡ slice ++ after → IsLexeme slice after lexeme → AtStart start slice after lexeme
at_start start text c cs slice after lexeme begins starts split stands =
    let h = heads slice after lexeme stands in
    let both : c ∷ cs ≡ h.first ∷ (h.others ++ after) = sym begins ∙ split ∙ ap (λ l. l ++ after) h.is in
    let same : c ≡ h.first = cc in
    subst (λ k. AtStart k slice after lexeme) (ap start_of (sym same) ∙ starts) h.stands

-- the longest of those is the longest of all
pub first-from : (start : Start) (text : List ℕ) (c : ℕ) (cs : List ℕ) (found : Option (Lexeme × List ℕ)) → text ≡ c ∷ cs → start_of c ≡ start → FirstAt start text found → First text found
first-from start text c cs None begins starts none =
    λ slice after any split stands. none slice after any split (at_start start text c cs slice after any begins starts split stands)
first-from start text c cs (Some x) begins starts at = (
  at.slice,
  record {
    split = at.split;
    stands = lexeme-from start at.slice x.1 x.0 at.stands;
    longest = λ other rest any split stands. at.longest other rest any split (at_start start text c cs other rest any begins starts split stands);
  },
)

-- what the start of a character tells of it
abbrev pub Tells : Start → ℕ → Type 0
Tells White c = is_white c ≡ true
Tells LeftOutMark c = is_left_out_mark c ≡ true
Tells Digit c = is_ascii_digit c ≡ true
Tells Quote c = c ≡ 34
Tells Hash c = c ≡ 35
Tells Word c = starts_word c ≡ true
Tells Sign c = ⊤

by_tests-tells : (T : Start → Type 0) (white mark digit quote hash word : Bool) → (white ≡ true → T White) → (mark ≡ true → T LeftOutMark) → (digit ≡ true → T Digit) → (quote ≡ true → T Quote) → (hash ≡ true → T Hash) → (word ≡ true → T Word) → T Sign
    → T (by_tests white mark digit quote hash word)
by_tests-tells T true m d q h w a b c e f g k = a refl
by_tests-tells T false true d q h w a b c e f g k = b refl
by_tests-tells T false false true q h w a b c e f g k = c refl
by_tests-tells T false false false true h w a b c e f g k = e refl
by_tests-tells T false false false false true w a b c e f g k = f refl
by_tests-tells T false false false false false true a b c e f g k = g refl
by_tests-tells T false false false false false false a b c e f g k = k

pub tells : (start : Start) (c : ℕ) → start_of c ≡ start → Tells start c
tells start c starts =
    subst (λ k. Tells k c) starts
    (by_tests-tells (λ k. Tells k c) (is_white c) (is_left_out_mark c) (is_ascii_digit c) (c == 34) (c == 35) (starts_word c) (λ e. e) (λ e. e) (λ e. e) (λ e. eqb-true c 34 e) (λ e. eqb-true c 35 e) (λ e. e) tt)
