-- The one string literal that may stand where a quote does.
use Rattle.std.proofs.Common.{◌≡◌, ℕ, ◌+◌, List, [], ◌∷◌, ◌++◌, length, Option, Some, None, refl, sym, ap, ◌∙◌, subst, arith, append_assoc}
use Rattle.std.proofs.lemmas.List.{length-append}
use Rattle.std.proofs.lemmas.Option.{same_Some}
use Rattle.bal_base.specs.declared.token.TokenKind.TheVariants as kind
use Rattle.bal_lexer.specs.declared.lexeme.Lexeme.TheVariants.{Token}
use Rattle.bal_lexer.specs.declared.lexeme.Start.TheVariants.{Quote}
use Rattle.bal_lexer.specs.Lexemes.{Spells, IsStringLiteral}
use Rattle.bal_lexer.specs.Strings.{piece_at, Closes}
use Rattle.bal_lexer.specs.Firsts.{FirstAt}
use Rattle.bal_lexer.proofs.Pieces.{piece_at-some, piece_at-stands, piece_at-quote}

-- a body that spells a text is read to its closing quote
pub closes-spelled : (text body value after : List ℕ) → text ≡ body ++ 34 ∷ after → Spells body value → Closes text value after
closes-spelled text body [] after split empty = split ∙ ap (λ b. b ++ 34 ∷ after) empty
closes-spelled text body (c ∷ value) after split (piece, rest, is, stands, more) =
    let whole : text ≡ piece ++ (rest ++ 34 ∷ after) = split ∙ ap (λ b. b ++ 34 ∷ after) is ∙ append_assoc piece rest (34 ∷ after) in
    (rest ++ 34 ∷ after, ap piece_at whole ∙ piece_at-stands piece (rest ++ 34 ∷ after) c stands, closes-spelled (rest ++ 34 ∷ after) rest value after refl more)

-- what is read to its closing quote is spelled
pub spelled-closes : (text value after : List ℕ) → Closes text value after → (body : List ℕ) × (text ≡ body ++ 34 ∷ after) × Spells body value
spelled-closes text [] after closes = ([], closes, refl)
spelled-closes text (c ∷ value) after (rest, read, closes) =
    let found = piece_at-some text c rest read in
    let (body, split, spells) = spelled-closes rest value after closes in
    (found.piece ++ body, found.seam ∙ ap (λ l. found.piece ++ l) split ∙ sym (append_assoc found.piece body (34 ∷ after)), (found.piece, body, refl, found.stands, spells))

none-pair : {A B : Type 0} {x : A} {y : B} → ◌≡◌ {A = Option (A × B)} (Some (x, y)) None → ⊥
none-pair e = cc

-- there is one way to read to the closing quote
pub closes-once : (text v w a b : List ℕ) → Closes text v a → Closes text w b → (v ≡ w) × (a ≡ b)
closes-once text [] [] a b p q = let both : 34 ∷ a ≡ 34 ∷ b = sym p ∙ q in (refl, cc)
closes-once text [] (d ∷ w) a b p (rest, read, q) = let bad = sym read ∙ ap piece_at p ∙ piece_at-quote a in absurd (none-pair bad)
closes-once text (c ∷ v) [] a b (rest, read, p) q = let bad = sym read ∙ ap piece_at q ∙ piece_at-quote b in absurd (none-pair bad)
closes-once text (c ∷ v) (d ∷ w) a b (rest, read, p) (rest', read', q) =
    let same = same_Some (c, rest) (d, rest') (sym read ∙ read') in
    let first : c ≡ d = ap (λ x. x.0) same in
    let rests : rest ≡ rest' = ap (λ x. x.1) same in
    let more = closes-once rest' v w a b (subst (λ r. Closes r v a) rests p) q in
    ((λ i. first i ∷ more.0 i), more.1)

-- the literal's body, as what follows its opening quote is read
literal-closes : (cs other rest : List ℕ) (value : List ℕ) → 34 ∷ cs ≡ other ++ rest → IsStringLiteral other value → Closes cs value rest
literal-closes cs other rest value split (body, is, spells) =
    let both : 34 ∷ cs ≡ 34 ∷ ((body ++ 34 ∷ []) ++ rest) = split ∙ ap (λ l. l ++ rest) is in
    let tails : cs ≡ (body ++ 34 ∷ []) ++ rest = cc in
    closes-spelled cs body value rest (tails ∙ append_assoc body (34 ∷ []) rest) spells

pub string-none : (cs : List ℕ) → ((value after : List ℕ) → Closes cs value after → ⊥) → FirstAt Quote (34 ∷ cs) None
string-none cs none slice after any split (value, is, literal) = none value after (literal-closes cs slice after value split literal)

pub string-first : (cs value after : List ℕ) → Closes cs value after → FirstAt Quote (34 ∷ cs) (Some (Token (kind.Str value), after))
string-first cs value after closes =
    let (body, split, spells) = spelled-closes cs value after closes in
    record {
      slice = 34 ∷ body ++ 34 ∷ [];
      split = ap (λ l. 34 ∷ l) (split ∙ sym (append_assoc body (34 ∷ []) after));
      stands = (value, refl, (body, refl, spells));
      longest = λ other rest any where' (text, is, literal).
          let same = closes-once cs text value rest after (literal-closes cs other rest text where' literal) closes in
          let sizes : length other + length rest ≡ length (34 ∷ body ++ 34 ∷ []) + length after =
          sym (length-append other rest) ∙ ap length (sym where' ∙ ap (λ l. 34 ∷ l) (split ∙ sym (append_assoc body (34 ∷ []) after))) ∙ length-append (34 ∷ body ++ 34 ∷ []) after in
          omega (arith, sizes, ap length same.1);
    }
