-- A text has one reading: its tokens, or the place where it is refused.
use Rattle.std.proofs.Common.{◌≡◌, ◌≢◌, ℕ, ◌+◌, ◌-◌, ◌<◌, ◌≤◌, true, false, ◌==◌, Option, Some, None, List, [], ◌∷◌, ◌++◌, length, IsUtf8, chars, refl, sym, ap, ◌∙◌, subst, arith, append_assoc}
use Rattle.std.specs.Prelude.{encode_utf8_all, option_map}
use denote.Bor.{Bor}
use Rattle.std.proofs.lemmas.List.{length-append, append-nil}
use Rattle.std.proofs.lemmas.Str.{encodes-append, encodes-chars, chars-nil, length-le-encodes}
use Rattle.std.proofs.lemmas.Bool.{eqb-true, eqb-false}
use Rattle.bal_base.specs.declared.token.TokenKind.{TokenKind}
use Rattle.bal_base.specs.declared.token.Token.{Token as TokenOf}
use Rattle.bal_base.specs.declared.fault.FaultCode.{FaultCode}
use Rattle.bal_base.specs.declared.fault.Fault.{Fault}
use Rattle.bal_lexer.specs.declared.lexeme.Lexeme.{Lexeme}
use Rattle.bal_lexer.specs.declared.lexeme.Lexeme.TheVariants.{Gap, LeftOut, Token}
use Rattle.bal_lexer.specs.Lexes.{byte_len, Begins, NothingBegins, token_at, LexesFrom, ends, passes, takes, Lexes, RefusesFrom, left_out, bad_token, past_gap, past_token, Refuses, IsFaultAt, IsRefusal}
use Rattle.bal_lexer.specs.Firsts.{First}
use Rattle.bal_lexer.proofs.Heads.{heads}
use Rattle.bal_lexer.proofs.Unique.{begins-same}

begins-some : (slice after : List ℕ) (l : Lexeme) → Begins [] slice after l → ⊥
begins-some slice after l b =
    let h = heads slice after l b.stands in
    let bad : [] ≡ h.first ∷ (h.others ++ after) = b.split ∙ ap (λ s. s ++ after) h.is in
    cc

gap-no_token : (kind : TokenKind) → ◌≡◌ {A = Lexeme} Gap (Token kind) → ⊥
gap-no_token kind e = cc

gap-no_left_out : ◌≡◌ {A = Lexeme} Gap LeftOut → ⊥
gap-no_left_out e = cc

token-no_left_out : (kind : TokenKind) → ◌≡◌ {A = Lexeme} (Token kind) LeftOut → ⊥
token-no_left_out kind e = cc

token-kind : (k l : TokenKind) → ◌≡◌ {A = Lexeme} (Token k) (Token l) → k ≡ l
token-kind k l e = cc

pub lexes-same : {at : ℕ} {text : List ℕ} {ts us : List TokenOf} → LexesFrom at text ts → LexesFrom at text us → ts ≡ us
lexes-same (ends at) (ends _) = refl
lexes-same (ends at) (passes _ _ slice after tokens b more) = absurd (begins-some slice after Gap b)
lexes-same (ends at) (takes _ _ slice after kind tokens b more) = absurd (begins-some slice after (Token kind) b)
lexes-same (passes at text slice after tokens b more) (ends _) = absurd (begins-some slice after Gap b)
lexes-same (passes at text slice after tokens b more) (passes _ _ slice' after' tokens' b' more') =
    let s = begins-same text slice after Gap slice' after' Gap b b' in
    lexes-same more (subst (λ x. LexesFrom (at + byte_len x) after tokens') (sym s.slices) (subst (λ x. LexesFrom (at + byte_len slice') x tokens') (sym s.afters) more'))
lexes-same (passes at text slice after tokens b more) (takes _ _ slice' after' kind tokens' b' more') =
    absurd (gap-no_token kind (begins-same text slice after Gap slice' after' (Token kind) b b').lexemes)
lexes-same (takes at text slice after kind tokens b more) (ends _) = absurd (begins-some slice after (Token kind) b)
lexes-same (takes at text slice after kind tokens b more) (passes _ _ slice' after' tokens' b' more') =
    absurd (gap-no_token kind (sym (begins-same text slice after (Token kind) slice' after' Gap b b').lexemes))
lexes-same (takes at text slice after kind tokens b more) (takes _ _ slice' after' kind' tokens' b' more') =
    let s = begins-same text slice after (Token kind) slice' after' (Token kind') b b' in
    let kinds = token-kind kind kind' s.lexemes in
    let rest = lexes-same more (subst (λ x. LexesFrom (at + byte_len x) after tokens') (sym s.slices) (subst (λ x. LexesFrom (at + byte_len slice') x tokens') (sym s.afters) more')) in
    λ i. token_at at (s.slices i) (kinds i) ∷ rest i

pub lexes-no_refusal : {at : ℕ} {text : List ℕ} {ts : List TokenOf} {code' : FaultCode} {place : ℕ} → LexesFrom at text ts → RefusesFrom at text code' place → ⊥
lexes-no_refusal (ends at) (left_out _ _ slice after b) = begins-some slice after LeftOut b
lexes-no_refusal (ends at) (bad_token _ _ some none) = some refl
lexes-no_refusal (ends at) (past_gap _ _ slice after c place b more) = begins-some slice after Gap b
lexes-no_refusal (ends at) (past_token _ _ slice after kind c place b more) = begins-some slice after (Token kind) b
lexes-no_refusal (passes at text slice after tokens b more) (left_out _ _ slice' after' b') = gap-no_left_out (begins-same text slice after Gap slice' after' LeftOut b b').lexemes
lexes-no_refusal (passes at text slice after tokens b more) (bad_token _ _ some none) = none slice after Gap b.split b.stands
lexes-no_refusal (passes at text slice after tokens b more) (past_gap _ _ slice' after' c place b' more') =
    let s = begins-same text slice after Gap slice' after' Gap b b' in
    lexes-no_refusal more (subst (λ x. RefusesFrom (at + byte_len x) after c place) (sym s.slices) (subst (λ x. RefusesFrom (at + byte_len slice') x c place) (sym s.afters) more'))
lexes-no_refusal (passes at text slice after tokens b more) (past_token _ _ slice' after' kind c place b' more') =
    gap-no_token kind (begins-same text slice after Gap slice' after' (Token kind) b b').lexemes
lexes-no_refusal (takes at text slice after kind tokens b more) (left_out _ _ slice' after' b') = token-no_left_out kind (begins-same text slice after (Token kind) slice' after' LeftOut b b').lexemes
lexes-no_refusal (takes at text slice after kind tokens b more) (bad_token _ _ some none) = none slice after (Token kind) b.split b.stands
lexes-no_refusal (takes at text slice after kind tokens b more) (past_gap _ _ slice' after' c place b' more') =
    gap-no_token kind (sym (begins-same text slice after (Token kind) slice' after' Gap b b').lexemes)
lexes-no_refusal (takes at text slice after kind tokens b more) (past_token _ _ slice' after' kind' c place b' more') =
    let s = begins-same text slice after (Token kind) slice' after' (Token kind') b b' in
    lexes-no_refusal more (subst (λ x. RefusesFrom (at + byte_len x) after c place) (sym s.slices) (subst (λ x. RefusesFrom (at + byte_len slice') x c place) (sym s.afters) more'))

pub refuses-same : {at : ℕ} {text : List ℕ} {c d : FaultCode} {p q : ℕ} → RefusesFrom at text c p → RefusesFrom at text d q → (c ≡ d) × (p ≡ q)
refuses-same (left_out at text slice after b) (left_out _ _ slice' after' b') = (refl, refl)
refuses-same (left_out at text slice after b) (bad_token _ _ some none) = absurd (none slice after LeftOut b.split b.stands)
refuses-same (left_out at text slice after b) (past_gap _ _ slice' after' c place b' more) = absurd (gap-no_left_out (sym (begins-same text slice after LeftOut slice' after' Gap b b').lexemes))
refuses-same (left_out at text slice after b) (past_token _ _ slice' after' kind c place b' more) = absurd (token-no_left_out kind (sym (begins-same text slice after LeftOut slice' after' (Token kind) b b').lexemes))
refuses-same (bad_token at text some none) (left_out _ _ slice after b) = absurd (none slice after LeftOut b.split b.stands)
refuses-same (bad_token at text some none) (bad_token _ _ some' none') = (refl, refl)
refuses-same (bad_token at text some none) (past_gap _ _ slice after c place b more) = absurd (none slice after Gap b.split b.stands)
refuses-same (bad_token at text some none) (past_token _ _ slice after kind c place b more) = absurd (none slice after (Token kind) b.split b.stands)
refuses-same (past_gap at text slice after c place b more) (left_out _ _ slice' after' b') = absurd (gap-no_left_out (begins-same text slice after Gap slice' after' LeftOut b b').lexemes)
refuses-same (past_gap at text slice after c place b more) (bad_token _ _ some none) = absurd (none slice after Gap b.split b.stands)
refuses-same (past_gap at text slice after c place b more) (past_gap _ _ slice' after' d place' b' more') =
    let s = begins-same text slice after Gap slice' after' Gap b b' in
    refuses-same more (subst (λ x. RefusesFrom (at + byte_len x) after d place') (sym s.slices) (subst (λ x. RefusesFrom (at + byte_len slice') x d place') (sym s.afters) more'))
refuses-same (past_gap at text slice after c place b more) (past_token _ _ slice' after' kind d place' b' more') =
    absurd (gap-no_token kind (begins-same text slice after Gap slice' after' (Token kind) b b').lexemes)
refuses-same (past_token at text slice after kind c place b more) (left_out _ _ slice' after' b') = absurd (token-no_left_out kind (begins-same text slice after (Token kind) slice' after' LeftOut b b').lexemes)
refuses-same (past_token at text slice after kind c place b more) (bad_token _ _ some none) = absurd (none slice after (Token kind) b.split b.stands)
refuses-same (past_token at text slice after kind c place b more) (past_gap _ _ slice' after' d place' b' more') =
    absurd (gap-no_token kind (sym (begins-same text slice after (Token kind) slice' after' Gap b b').lexemes))
refuses-same (past_token at text slice after kind c place b more) (past_token _ _ slice' after' kind' d place' b' more') =
    let s = begins-same text slice after (Token kind) slice' after' (Token kind') b b' in
    refuses-same more (subst (λ x. RefusesFrom (at + byte_len x) after d place') (sym s.slices) (subst (λ x. RefusesFrom (at + byte_len slice') x d place') (sym s.afters) more'))

-- the text has been read up to the rest, as these tokens
pub record HasLexed (text : List ℕ) (tokens : List TokenOf) (at : ℕ) (rest : List ℕ) : Type 0 where
  pub lexes : (ts : List TokenOf) → LexesFrom at rest ts → Lexes text (tokens ++ ts)
  pub refuses : (c : FaultCode) (place : ℕ) → RefusesFrom at rest c place → Refuses text c place

pub has_lexed-none : (text : List ℕ) → HasLexed text [] 0 text
has_lexed-none text = record { lexes = λ ts h. h; refuses = λ c place h. h }

pub has_lexed-gap : (text : List ℕ) (tokens : List TokenOf) (at : ℕ) (rest slice after : List ℕ) → HasLexed text tokens at rest → Begins rest slice after Gap → HasLexed text tokens (at + byte_len slice) after
has_lexed-gap text tokens at rest slice after has b = record {
  lexes = λ ts h. has.lexes ts (passes at rest slice after ts b h);
  refuses = λ c place h. has.refuses c place (past_gap at rest slice after c place b h);
}

pub has_lexed-token : (text : List ℕ) (tokens : List TokenOf) (at : ℕ) (rest slice after : List ℕ) (kind : TokenKind) → HasLexed text tokens at rest → Begins rest slice after (Token kind)
    → HasLexed text (tokens ++ token_at at slice kind ∷ []) (at + byte_len slice) after
has_lexed-token text tokens at rest slice after kind has b = record {
  lexes = λ ts h. subst (Lexes text) (sym (append_assoc tokens (token_at at slice kind ∷ []) ts)) (has.lexes (token_at at slice kind ∷ ts) (takes at rest slice after kind ts b h));
  refuses = λ c place h. has.refuses c place (past_token at rest slice after kind c place b h);
}

pub has_lexed-all : (text : List ℕ) (tokens : List TokenOf) (at : ℕ) → HasLexed text tokens at [] → Lexes text tokens
has_lexed-all text tokens at has = subst (Lexes text) (append-nil tokens) (has.lexes [] (ends at))

-- the bytes of a text are those of its front and of what follows
pub byte_len-split : (s after slice : List ℕ) → IsUtf8 s → IsUtf8 after → chars s ≡ slice ++ chars after → length s ≡ byte_len slice + length after
byte_len-split s after slice text back split =
    ap length (sym (encodes-chars s text) ∙ ap encode_utf8_all split ∙ encodes-append slice (chars after) ∙ ap (λ l. encode_utf8_all slice ++ l) (encodes-chars after back))
    ∙ length-append (encode_utf8_all slice) after

-- the place of what follows a slice
pub place-after : (text rest after size : ℕ) → rest ≡ size + after → rest ≤ text → (text - rest) + size ≡ text - after
place-after text rest after size split within = omega arith

pub chars-some : (s : List ℕ) → IsUtf8 s → (length s == 0) ≡ false → chars s ≢ []
chars-some s text some none =
    let empty : s ≡ [] = sym (encodes-chars s text) ∙ ap encode_utf8_all none in
    eqb-false (length s) 0 some (ap length empty)

empty-length : (s : List ℕ) → length s ≡ 0 → s ≡ []
empty-length [] e = refl
empty-length (x ∷ s) e = absurd (omega arith)

pub chars-none : (s : List ℕ) → (length s == 0) ≡ true → chars s ≡ []
chars-none s empty = ap chars (empty-length s (eqb-true (length s) 0 empty)) ∙ chars-nil

-- an answer that a text is refused is right, and no other is
pub answer-right : (text : List ℕ) (file : ℕ) (c : FaultCode) (at : ℕ) (fault : Fault) → Refuses text c at → IsFaultAt file c at fault → IsRefusal text file fault
answer-right text file c at fault refused answer = (at, subst (λ d. Refuses text d at) (sym answer.0) refused, (refl, answer.1, answer.2))

pub answer-only : (text : List ℕ) (file : ℕ) (c : FaultCode) (at : ℕ) (fault : Fault) → Refuses text c at → IsFaultAt file c at fault
    → (d : FaultCode) (place : ℕ) → Refuses text d place → IsFaultAt file d place fault
answer-only text file c at fault refused answer d place other =
    let same = refuses-same refused other in
    (answer.0 ∙ same.0, answer.1 ∙ ap (λ p. Some (record { file = file; at = p })) same.1, answer.2)

-- what one lexeme moves: the rest is shorter, and its place is after the slice
pub step : (text s after slice : List ℕ) (l : Lexeme) → IsUtf8 s → IsUtf8 after → length s ≤ length text → Begins (chars s) slice (chars after) l
    → (length after < length s) × ((length text - length s) + byte_len slice ≡ length text - length after)
step text s after slice l here back within b =
    let h = heads slice (chars after) l b.stands in
    let size = byte_len-split s after slice here back b.split in
    let some : 1 ≤ length slice = omega (arith, ap length h.is) in
    let bytes = length-le-encodes slice in
    (omega (arith, size, some, bytes), place-after (length text) (length s) (length after) (byte_len slice) size within)

-- what the first lexeme of a text is, by what was found
pub found-some : (text : List ℕ) (found : Option (Lexeme × Bor (List ℕ))) (x : Lexeme × Bor (List ℕ)) → found ≡ Some x → First text (option_map (λ y. (y.0, chars y.1.now)) found)
    → (slice : List ℕ) × Begins text slice (chars x.1.now) x.0
found-some text found x is first = subst (λ o. First text (option_map (λ y. (y.0, chars y.1.now)) o)) is first

pub found-none : (text : List ℕ) (found : Option (Lexeme × Bor (List ℕ))) → found ≡ None → First text (option_map (λ y. (y.0, chars y.1.now)) found) → NothingBegins text
found-none text found is first = subst (λ o. First text (option_map (λ y. (y.0, chars y.1.now)) o)) is first
