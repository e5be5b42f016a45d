-- Every text has a reading: tokens, or a place where it is refused.
use Rattle.std.proofs.Common.{◌≡◌, ℕ, zero, suc, ◌+◌, ◌<◌, Bool, true, false, nat_eq, List, [], ◌∷◌, ◌++◌, length, take, drop, Option, Some, None, find, inl, inr, refl, sym, ap, ◌∙◌, subst, arith}
use Rattle.std.specs.Prelude.{◌⊎◌}
use Rattle.std.specs.Str.{bytes_eq}
use Rattle.std.specs.List.{list_any, starts_with}
use Rattle.std.proofs.Math.Seq.{take-append_seam}
use Rattle.std.proofs.lemmas.List.{length-append, take-append-drop}
use Rattle.std.proofs.lemmas.Option.{none-some, same_Some}
use Rattle.std.proofs.lemmas.Slice.Eq.{bytes_eq-Decides}
use Rattle.std.proofs.lemmas.Bool.{cases_Bool, both_ways}
use Rattle.unicode_ident.specs.Ident.{is_xid_continue}
use Rattle.bal_base.specs.declared.token.TokenKind.{TokenKind}
use Rattle.bal_base.specs.declared.token.TokenKind.TheVariants as kind
use Rattle.bal_base.specs.declared.token.Keyword.{Keyword}
use Rattle.bal_base.specs.declared.token.Sign.{Sign as SignOf}
use Rattle.bal_base.specs.declared.token.Sign.TheVariants as sign
use Rattle.bal_base.specs.declared.token.Token.{Token as TokenOf}
use Rattle.bal_base.specs.declared.fault.FaultCode.{FaultCode}
use Rattle.bal_base.specs.declared.fault.FaultCode.TheVariants as code
use Rattle.bal_lexer.specs.Spellings.{keyword_text, sign_text, left_out_words}
use Rattle.bal_lexer.specs.Groups.{every_keyword, every_sign}
use Rattle.bal_lexer.specs.declared.lexeme.Lexeme.{Lexeme}
use Rattle.bal_lexer.specs.declared.lexeme.Lexeme.TheVariants.{Gap, LeftOut, Token}
use Rattle.bal_lexer.specs.declared.lexeme.Start.{Start}
use Rattle.bal_lexer.specs.declared.lexeme.Start.TheVariants.{White, LeftOutMark, Digit, Quote, Hash, Word, Sign}
use Rattle.bal_lexer.specs.Words.{Means}
use Rattle.bal_lexer.specs.Runs.{run, after_run}
use Rattle.bal_lexer.specs.Numbers.{number_at}
use Rattle.bal_lexer.specs.Strings.{after_char, piece_at, Closes}
use Rattle.bal_lexer.specs.Lexes.{byte_len, token_at, Begins, LexesFrom, ends, passes, takes, RefusesFrom, left_out, bad_token, past_gap, past_token, HasReading}
use Rattle.bal_lexer.specs.Firsts.{start_of, in_line, FirstAt, First}
use Rattle.bal_lexer.proofs.Finds.{find-none, find-some, find-largest}
use Rattle.bal_lexer.proofs.Keywords.{has_keyword}
use Rattle.bal_lexer.proofs.Signs.{signs_descend, has_sign}
use Rattle.bal_lexer.proofs.WordKinds.{list_any-at, contains-any}
use Rattle.bal_lexer.proofs.Pieces.{after_char-some, piece_at-quote, piece_at-shorter}
use Rattle.bal_lexer.proofs.Heads.{heads, first-from, tells}
use Rattle.bal_lexer.proofs.Classes.{white-first, mark-first, hash-first, word-first, comment-first, sign-first, sign-none}
use Rattle.bal_lexer.proofs.NumberFirst.{number-first}
use Rattle.bal_lexer.proofs.StringFirst.{string-none, string-first}

nonempty : (c : ℕ) (cs : List ℕ) → c ∷ cs ≡ [] → ⊥
nonempty c cs e = cc

-- a word is something
word-means : (word : List ℕ) → (lexeme : Lexeme) × Means word lexeme
word-means word = by_underscore (bytes_eq word (95 ∷ [])) refl
  where
    by_keyword : (bytes_eq word (95 ∷ []) ≡ false) → (list_any (λ w. bytes_eq w word) left_out_words ≡ false) → (found : Option Keyword) → find (λ k. bytes_eq (keyword_text k) word) every_keyword ≡ found → (lexeme : Lexeme) × Means word lexeme
    by_keyword no_sign not_left_out (Some k) e = (Token (kind.Keyword k), sym ((bytes_eq-Decides (keyword_text k) word).0 (find-some (λ h. bytes_eq (keyword_text h) word) every_keyword k e)))
    by_keyword no_sign not_left_out None e = (
      Token (kind.Word word),
      (
        record {
          no_keyword = λ k is. both_ways (bytes_eq (keyword_text k) word) (find-none (λ h. bytes_eq (keyword_text h) word) every_keyword k e (has_keyword k)) ((bytes_eq-Decides (keyword_text k) word).1 (sym is));
          not_left_out = λ listed. both_ways (bytes_eq word word) (list_any-at (λ w. bytes_eq w word) left_out_words word not_left_out listed) ((bytes_eq-Decides word word).1 refl);
          no_sign = λ is. both_ways (bytes_eq word (95 ∷ [])) no_sign ((bytes_eq-Decides word (95 ∷ [])).1 is);
        },
        refl,
      ),
    )

    by_left_out : (bytes_eq word (95 ∷ []) ≡ false) → (left : Bool) → list_any (λ w. bytes_eq w word) left_out_words ≡ left → (lexeme : Lexeme) × Means word lexeme
    by_left_out no_sign true e = (LeftOut, contains-any word left_out_words e)
    by_left_out no_sign false e = by_keyword no_sign e (find (λ k. bytes_eq (keyword_text k) word) every_keyword) refl

    by_underscore : (underscore : Bool) → bytes_eq word (95 ∷ []) ≡ underscore → (lexeme : Lexeme) × Means word lexeme
    by_underscore true e = (Token (kind.Sign sign.Underscore), ((bytes_eq-Decides word (95 ∷ [])).0 e, refl))
    by_underscore false e = by_left_out e (list_any (λ w. bytes_eq w word) left_out_words) refl

-- the value and what follows the literal, where its closing quote comes
abbrev ClosesOrNot : List ℕ → Type 0
ClosesOrNot text = ((value : List ℕ) × (after : List ℕ) × Closes text value after) ⊎ ((value after : List ℕ) → Closes text value after → ⊥)

nothing-closes : (text : List ℕ) → piece_at text ≡ None → after_char 34 text ≡ None → (value after : List ℕ) → Closes text value after → ⊥
nothing-closes text no_piece no_quote [] after closes = none-some after (sym no_quote ∙ ap (after_char 34) closes)
nothing-closes text no_piece no_quote (c ∷ value) after (rest, read, closes) = none-some (c, rest) (sym no_piece ∙ read)

piece-closes : (text : List ℕ) (c : ℕ) (rest : List ℕ) → piece_at text ≡ Some (c, rest) → ClosesOrNot rest → ClosesOrNot text
piece-closes text c rest e (inl (value, after, closes)) = inl (c ∷ value, after, (rest, e, closes))
piece-closes text c rest e (inr none) = inr go
  where
    go : (value after : List ℕ) → Closes text value after → ⊥
    go [] after closes = none-some (c, rest) (sym (piece_at-quote after) ∙ ap piece_at (sym closes) ∙ e)
    go (d ∷ value) after (rest', read, closes) =
        let same = same_Some (c, rest) (d, rest') (sym e ∙ read) in
        none value after (subst (λ r. Closes r value after) (sym (ap (λ p. p.1) same)) closes)

quote-closes : (text : List ℕ) → piece_at text ≡ None → (o : Option (List ℕ)) → after_char 34 text ≡ o → ClosesOrNot text
quote-closes text no_piece (Some after) e = inl ([], after, after_char-some 34 text after e)
quote-closes text no_piece None e = inr (nothing-closes text no_piece e)

by-piece : (n : ℕ) (text : List ℕ) → length text < suc n → ((rest : List ℕ) → length rest < n → ClosesOrNot rest) → (o : Option (ℕ × List ℕ)) → piece_at text ≡ o → ClosesOrNot text
by-piece n text short shorter (Some (c, rest)) e = piece-closes text c rest e (shorter rest (omega (arith, piece_at-shorter text c rest e)))
by-piece n text short shorter None e = quote-closes text e (after_char 34 text) refl

closes-or_not : (n : ℕ) (text : List ℕ) → length text < n → ClosesOrNot text
closes-or_not zero text short = absurd (omega arith)
closes-or_not (suc n) text short = by-piece n text short (λ rest lt. closes-or_not n rest lt) (piece_at text) refl

string-total : (cs : List ℕ) → ClosesOrNot cs → (found : Option (Lexeme × List ℕ)) × FirstAt Quote (34 ∷ cs) found
string-total cs (inl (value, after, closes)) = (Some (Token (kind.Str value), after), string-first cs value after closes)
string-total cs (inr none) = (None, string-none cs none)

-- a comment, the longest sign, or nothing
starts-yes : (text front rest : List ℕ) → text ≡ front ++ rest → starts_with nat_eq text front ≡ true
starts-yes text front rest e = (bytes_eq-Decides front (take (length front) text)).1 (sym (ap (take (length front)) e ∙ take-append_seam front rest))

starts-front : (text front : List ℕ) → starts_with nat_eq text front ≡ true → text ≡ front ++ drop (length front) text
starts-front text front e =
    sym (take-append-drop (length front) text) ∙ ap (λ l. l ++ drop (length front) text) (sym ((bytes_eq-Decides front (take (length front) text)).0 e))

sign-total : (text : List ℕ) → (found : Option (Lexeme × List ℕ)) × FirstAt Sign text found
sign-total text = go (cases_Bool (starts_with nat_eq text (47 ∷ 47 ∷ [])))
  where
    by_sign : (starts_with nat_eq text (47 ∷ 47 ∷ []) ≡ false) → (g : Option SignOf) → find (λ h. starts_with nat_eq text (sign_text h)) every_sign ≡ g → (found : Option (Lexeme × List ℕ)) × FirstAt Sign text found
    by_sign no_comment (Some g) e = (
      Some (Token (kind.Sign g), drop (length (sign_text g)) text),
      sign-first text g (drop (length (sign_text g)) text) (λ rest is. both_ways (starts_with nat_eq text (47 ∷ 47 ∷ [])) no_comment (starts-yes text (47 ∷ 47 ∷ []) rest is))
          (starts-front text (sign_text g) (find-some (λ h. starts_with nat_eq text (sign_text h)) every_sign g e))
          (λ other rest is. find-largest (λ h. length (sign_text h)) (λ h. starts_with nat_eq text (sign_text h)) every_sign g other signs_descend e (has_sign other) (starts-yes text (sign_text other) rest is)),
    )
    by_sign no_comment None e = (
      None,
      sign-none text (λ rest is. both_ways (starts_with nat_eq text (47 ∷ 47 ∷ [])) no_comment (starts-yes text (47 ∷ 47 ∷ []) rest is))
          (λ other rest is. both_ways (starts_with nat_eq text (sign_text other)) (find-none (λ h. starts_with nat_eq text (sign_text h)) every_sign other e (has_sign other)) (starts-yes text (sign_text other) rest is)),
    )

    go : (starts_with nat_eq text (47 ∷ 47 ∷ []) ≡ true) ⊎ (starts_with nat_eq text (47 ∷ 47 ∷ []) ≡ false) → (found : Option (Lexeme × List ℕ)) × FirstAt Sign text found
    go (inl comment) = (Some (Gap, after_run in_line (drop 2 text)), comment-first text (drop 2 text) (starts-front text (47 ∷ 47 ∷ []) comment))
    go (inr no_comment) = by_sign no_comment (find (λ h. starts_with nat_eq text (sign_text h)) every_sign) refl

-- the longest lexeme of a text, or that there is none
first-total : (c : ℕ) (cs : List ℕ) → (found : Option (Lexeme × List ℕ)) × First (c ∷ cs) found
first-total c cs = go (start_of c) refl
  where
    go : (start : Start) → start_of c ≡ start → (found : Option (Lexeme × List ℕ)) × First (c ∷ cs) found
    go White e = (Some (Gap, cs), first-from White (c ∷ cs) c cs (Some (Gap, cs)) refl e (white-first (c ∷ cs) c cs refl (tells White c e)))
    go LeftOutMark e = (Some (LeftOut, cs), first-from LeftOutMark (c ∷ cs) c cs (Some (LeftOut, cs)) refl e (mark-first (c ∷ cs) c cs refl (tells LeftOutMark c e)))
    go Digit e = (number_at (c ∷ cs), first-from Digit (c ∷ cs) c cs (number_at (c ∷ cs)) refl e (number-first (c ∷ cs) c cs refl (tells Digit c e)))
    go Quote e =
        let (found, at) = string-total cs (closes-or_not (suc (length cs)) cs (omega arith)) in
        (found, first-from Quote (c ∷ cs) c cs found refl e (subst (λ d. FirstAt Quote (d ∷ cs) found) (sym (tells Quote c e)) at))
    go Hash e = (Some (Gap, after_run in_line cs), first-from Hash (c ∷ cs) c cs (Some (Gap, after_run in_line cs)) refl e (hash-first (c ∷ cs) cs (ap (λ d. d ∷ cs) (tells Hash c e))))
    go Word e =
        let (lexeme, means) = word-means (run is_xid_continue (c ∷ cs)) in
        (Some (lexeme, after_run is_xid_continue (c ∷ cs)), first-from Word (c ∷ cs) c cs (Some (lexeme, after_run is_xid_continue (c ∷ cs))) refl e (word-first (c ∷ cs) c cs lexeme refl (tells Word c e) means))
    go Sign e =
        let (found, at) = sign-total (c ∷ cs) in
        (found, first-from Sign (c ∷ cs) c cs found refl e at)

abbrev HasReadingFrom : ℕ → List ℕ → Type 0
HasReadingFrom at text = ((tokens : List TokenOf) × LexesFrom at text tokens) ⊎ ((c : FaultCode) × (place : ℕ) × RefusesFrom at text c place)

begins-shorter : (text slice after : List ℕ) (l : Lexeme) → Begins text slice after l → length after < length text
begins-shorter text slice after l b =
    let h = heads slice after l b.stands in
    omega (arith, ap length b.split, length-append slice after, ap length h.is)

past-gap : (at : ℕ) (text slice after : List ℕ) → Begins text slice after Gap → HasReadingFrom (at + byte_len slice) after → HasReadingFrom at text
past-gap at text slice after b (inl (tokens, lexes)) = inl (tokens, passes at text slice after tokens b lexes)
past-gap at text slice after b (inr (c, place, refuses)) = inr (c, place, past_gap at text slice after c place b refuses)

past-token : (at : ℕ) (text slice after : List ℕ) (k : TokenKind) → Begins text slice after (Token k) → HasReadingFrom (at + byte_len slice) after → HasReadingFrom at text
past-token at text slice after k b (inl (tokens, lexes)) = inl (token_at at slice k ∷ tokens, takes at text slice after k tokens b lexes)
past-token at text slice after k b (inr (c, place, refuses)) = inr (c, place, past_token at text slice after k c place b refuses)

by-first : (n at c : ℕ) (cs : List ℕ) → length (c ∷ cs) < suc n → ((from : ℕ) (rest : List ℕ) → length rest < n → HasReadingFrom from rest)
    → (found : Option (Lexeme × List ℕ)) → First (c ∷ cs) found → HasReadingFrom at (c ∷ cs)
by-first n at c cs short shorter None none = inr (code.BadToken, at, bad_token at (c ∷ cs) (nonempty c cs) none)
by-first n at c cs short shorter (Some (Gap, after)) (slice, b) =
    past-gap at (c ∷ cs) slice after b (shorter (at + byte_len slice) after (omega (arith, begins-shorter (c ∷ cs) slice after Gap b)))
by-first n at c cs short shorter (Some (LeftOut, after)) (slice, b) = inr (code.LeftOut, at, left_out at (c ∷ cs) slice after b)
by-first n at c cs short shorter (Some (Token k, after)) (slice, b) =
    past-token at (c ∷ cs) slice after k b (shorter (at + byte_len slice) after (omega (arith, begins-shorter (c ∷ cs) slice after (Token k) b)))

reading-from : (n at : ℕ) (text : List ℕ) → length text < n → HasReadingFrom at text
reading-from zero at text short = absurd (omega arith)
reading-from (suc n) at [] short = inl ([], ends at)
reading-from (suc n) at (c ∷ cs) short =
    let (found, first) = first-total c cs in
    by-first n at c cs short (λ from rest lt. reading-from n from rest lt) found first

pub reading : (text : List ℕ) → HasReading text
reading text = reading-from (suc (length text)) 0 text (omega arith)
