-- A slice is one lexeme at most, so a text has one reading.
use Rattle.std.proofs.Common.{◌≡◌, ◌≢◌, ℕ, zero, suc, Bool, true, false, cond, not, nat_eq, pos, List, [], ◌∷◌, ◌++◌, length, take, drop, codes, Option, Some, None, Contains, find, inl, inr, refl, sym, ap, ◌∙◌, subst, arith}
use Rattle.std.specs.Prelude.{◌⊎◌}
use Rattle.std.specs.Str.{bytes_eq}
use Rattle.std.specs.List.{list_all, list_any, starts_with}
use Rattle.std.specs.Char.{is_ascii_digit}
use Rattle.std.specs.Str.Parse.{digits_value}
use Rattle.std.proofs.Math.Seq.{take-append_seam, drop-append_seam}
use Rattle.std.proofs.lemmas.List.{length-append}
use Rattle.std.proofs.lemmas.Slice.Eq.{bytes_eq-Decides}
use Rattle.std.proofs.lemmas.Bool.{and_parts, both_ways, false_from_ne_true, not-true, or_left, or_right}
use Rattle.bal_base.specs.declared.token.TokenKind.TheVariants as kind
use Rattle.bal_base.specs.declared.token.Keyword.{Keyword}
use Rattle.bal_base.specs.declared.token.Sign.{Sign as SignOf}
use Rattle.bal_base.specs.declared.token.Sign.TheVariants as sign
use Rattle.bal_base.proofs.Tables.{list_all-at}
use Rattle.bal_lexer.specs.Spellings.{keyword_text, sign_text, left_out_words}
use Rattle.bal_lexer.specs.Groups.{every_keyword}
use Rattle.bal_lexer.specs.declared.lexeme.Lexeme.{Lexeme}
use Rattle.bal_lexer.specs.declared.lexeme.Lexeme.TheVariants.{Gap, LeftOut, Token}
use Rattle.bal_lexer.specs.declared.lexeme.Start.{Start}
use Rattle.bal_lexer.specs.declared.lexeme.Start.TheVariants.{White, LeftOutMark, Digit, Quote, Hash, Word, Sign}
use Rattle.bal_lexer.specs.Lexemes.{IsLexeme, IsFraction, IsIntLiteral, IsStringLiteral}
use Rattle.bal_lexer.specs.Words.{Means}
use Rattle.bal_lexer.specs.Runs.{after_run}
use Rattle.bal_lexer.specs.Lexes.{Begins}
use Rattle.bal_lexer.specs.Firsts.{start_of, AtStart}
use Rattle.bal_lexer.proofs.Finds.{find-some}
use Rattle.bal_lexer.proofs.Keywords.{keyword-not_left_out, keyword-no_sign, find-keyword}
use Rattle.bal_lexer.proofs.Signs.{no_comment, sign_text-same}
use Rattle.bal_lexer.proofs.WordKinds.{contains-any}
use Rattle.bal_lexer.proofs.Runs.{after_run-append}
use Rattle.bal_lexer.proofs.NumberFirst.{first-same}
use Rattle.bal_lexer.proofs.StringFirst.{closes-spelled, closes-once}
use Rattle.bal_lexer.proofs.Heads.{heads, at_start}

-- the one thing that a word is
abbrev keyword_meaning : Option Keyword → List ℕ → Lexeme
keyword_meaning (Some k) word = Token (kind.Keyword k)
keyword_meaning None word = Token (kind.Word word)

abbrev keyword_here : List ℕ → Option Keyword
keyword_here word = find (λ k. bytes_eq (keyword_text k) word) every_keyword

abbrev meaning : List ℕ → Lexeme
meaning word =
    cond (bytes_eq word (95 ∷ [])) (Token (kind.Sign sign.Underscore)) (cond (list_any (λ w. bytes_eq w word) left_out_words) LeftOut (keyword_meaning (keyword_here word) word))

-- a test that fails for each of the left-out words
left_out_no_sign : list_all (λ w. not (bytes_eq w (95 ∷ []))) left_out_words ≡ true
unfolding left_out_words
left_out_no_sign = refl

any-contains : (p : List ℕ → Bool) (xs : List (List ℕ)) (y : List ℕ) → Contains xs y → p y ≡ true → list_any p xs ≡ true
any-contains p [] y (k, lt, e) passes = absurd (omega arith)
any-contains p (x ∷ xs) y (zero, lt, e) passes = or_left (p x) (list_any p xs) (ap p e ∙ passes)
any-contains p (x ∷ xs) y (suc k, lt, e) passes = or_right (p x) (list_any p xs) (any-contains p xs y (k, omega arith, e) passes)

bytes_eq-refl : (xs : List ℕ) → bytes_eq xs xs ≡ true
bytes_eq-refl xs = (bytes_eq-Decides xs xs).1 refl

bytes_eq-apart : (xs ys : List ℕ) → xs ≢ ys → bytes_eq xs ys ≡ false
bytes_eq-apart xs ys apart = false_from_ne_true (bytes_eq xs ys) (λ e. apart ((bytes_eq-Decides xs ys).0 e))

meaning-by_tests : (underscore left : Bool) (found : Option Keyword) (word : List ℕ) (lexeme : Lexeme)
    → bytes_eq word (95 ∷ []) ≡ underscore → list_any (λ w. bytes_eq w word) left_out_words ≡ left → keyword_here word ≡ found
    → cond underscore (Token (kind.Sign sign.Underscore)) (cond left LeftOut (keyword_meaning found word)) ≡ lexeme → meaning word ≡ lexeme
meaning-by_tests underscore left found word lexeme a b c e = (λ i. cond (a i) (Token (kind.Sign sign.Underscore)) (cond (b i) LeftOut (keyword_meaning (c i) word))) ∙ e

means-meaning : (word : List ℕ) (lexeme : Lexeme) → Means word lexeme → meaning word ≡ lexeme
means-meaning word Gap means = absurd means
means-meaning word LeftOut listed =
    meaning-by_tests false true (keyword_here word) word LeftOut (not-true (bytes_eq word (95 ∷ [])) (list_all-at (λ w. not (bytes_eq w (95 ∷ []))) left_out_words word left_out_no_sign listed)) (any-contains (λ w. bytes_eq w word) left_out_words word listed (bytes_eq-refl word)) refl refl
means-meaning word (Token (kind.Word name)) (free, same) = go (keyword_here word) refl
  where
    go : (found : Option Keyword) → keyword_here word ≡ found → meaning word ≡ Token (kind.Word name)
    go (Some k) e = absurd (free.no_keyword k (sym ((bytes_eq-Decides (keyword_text k) word).0 (find-some (λ h. bytes_eq (keyword_text h) word) every_keyword k e))))
    go None e =
        meaning-by_tests false false None word (Token (kind.Word name)) (bytes_eq-apart word (95 ∷ []) free.no_sign) (false_from_ne_true (list_any (λ w. bytes_eq w word) left_out_words) (λ any. free.not_left_out (contains-any word left_out_words any))) e (ap (λ n. Token (kind.Word n)) (sym same))
means-meaning word (Token (kind.Keyword k)) is =
    meaning-by_tests false false (Some k) word (Token (kind.Keyword k)) (ap (λ w. bytes_eq w (95 ∷ [])) is ∙ keyword-no_sign k) (ap (λ v. list_any (λ w. bytes_eq w v) left_out_words) is ∙ keyword-not_left_out k) (here k word is) (known k word)
  where
    here : (k : Keyword) (word : List ℕ) → word ≡ keyword_text k → keyword_here word ≡ Some k
    here k word is = ap (λ v. find (λ h. bytes_eq (keyword_text h) v) every_keyword) is ∙ find-keyword k

    known : (k : Keyword) (word : List ℕ) → keyword_meaning (Some k) word ≡ Token (kind.Keyword k)
    known k word = refl
means-meaning word (Token (kind.Int i)) means = absurd means
means-meaning word (Token (kind.Str text)) means = absurd means
means-meaning word (Token (kind.Sign s)) (is, underscore) =
    let text : word ≡ 95 ∷ [] = is ∙ ap sign_text underscore in
    meaning-by_tests true (list_any (λ w. bytes_eq w word) left_out_words) (keyword_here word) word (Token (kind.Sign s)) (ap (λ w. bytes_eq w (95 ∷ [])) text) refl refl (ap (λ g. Token (kind.Sign g)) (sym underscore))

list_all-back : (p : ℕ → Bool) (xs ys : List ℕ) → list_all p (xs ++ ys) ≡ true → list_all p ys ≡ true
list_all-back p [] ys all = all
list_all-back p (x ∷ xs) ys all = list_all-back p xs ys (and_parts (p x) (list_all p (xs ++ ys)) all).1

fraction-no_int : (slice : List ℕ) (n : ℕ) → IsFraction slice → IsIntLiteral slice n → ⊥
fraction-no_int slice n (digits, d, is, are, last) (inl (inl zero', value)) =
    omega (arith, ap length (sym is ∙ zero'), length-append digits (46 ∷ d ∷ []))
fraction-no_int slice n (digits, d, is, are, last) (inl (inr (c, cs, split, first, all), value)) =
    both_ways false refl (and_parts (is_ascii_digit 46) (list_all is_ascii_digit (d ∷ [])) (list_all-back is_ascii_digit digits (46 ∷ d ∷ []) (subst (λ l. list_all is_ascii_digit l ≡ true) is all))).0
fraction-no_int slice n (digits, d, is, are, last) (inr (hs, inl split, hex, value)) =
    omega (arith, first-same 120 46 hs (d ∷ []) (ap (after_run is_ascii_digit) (sym split ∙ is) ∙ after_run-append is_ascii_digit digits (46 ∷ d ∷ []) are.1 refl))
fraction-no_int slice n (digits, d, is, are, last) (inr (hs, inr split, hex, value)) =
    omega (arith, first-same 88 46 hs (d ∷ []) (ap (after_run is_ascii_digit) (sym split ∙ is) ∙ after_run-append is_ascii_digit digits (46 ∷ d ∷ []) are.1 refl))

-- a literal in hexadecimal digits: what follows its first two characters
hex-same : (x y : ℕ) (slice hs ks : List ℕ) → slice ≡ 48 ∷ x ∷ hs → slice ≡ 48 ∷ y ∷ ks → hs ≡ ks
hex-same x y slice hs ks p q = let both : 48 ∷ x ∷ hs ≡ 48 ∷ y ∷ ks = sym p ∙ q in cc

decimal-no_hex : (x : ℕ) (slice hs : List ℕ) → slice ≡ 48 ∷ x ∷ hs → ((slice ≡ codes "0") ⊎ ((c : ℕ) × (cs : List ℕ) × (slice ≡ c ∷ cs) × (c ≢ 48) × (list_all is_ascii_digit slice ≡ true))) → ⊥
decimal-no_hex x slice hs split (inl zero') = omega (arith, ap length (sym split ∙ zero'))
decimal-no_hex x slice hs split (inr (c, cs, is, first, all)) = first (sym (first-same 48 c (x ∷ hs) cs (sym split ∙ is)))

int-same : (slice : List ℕ) (n m : ℕ) → IsIntLiteral slice n → IsIntLiteral slice m → n ≡ m
int-same slice n m (inl (decimal, value)) (inl (decimal', value')) = value ∙ sym value'
int-same slice n m (inl (decimal, value)) (inr (hs, inl split, are, value')) = absurd (decimal-no_hex 120 slice hs split decimal)
int-same slice n m (inl (decimal, value)) (inr (hs, inr split, are, value')) = absurd (decimal-no_hex 88 slice hs split decimal)
int-same slice n m (inr (hs, inl split, are, value)) (inl (decimal, value')) = absurd (decimal-no_hex 120 slice hs split decimal)
int-same slice n m (inr (hs, inr split, are, value)) (inl (decimal, value')) = absurd (decimal-no_hex 88 slice hs split decimal)
int-same slice n m (inr (hs, inl p, are, value)) (inr (ks, inl q, are', value')) = value ∙ ap (digits_value 16) (hex-same 120 120 slice hs ks p q) ∙ sym value'
int-same slice n m (inr (hs, inl p, are, value)) (inr (ks, inr q, are', value')) = value ∙ ap (digits_value 16) (hex-same 120 88 slice hs ks p q) ∙ sym value'
int-same slice n m (inr (hs, inr p, are, value)) (inr (ks, inl q, are', value')) = value ∙ ap (digits_value 16) (hex-same 88 120 slice hs ks p q) ∙ sym value'
int-same slice n m (inr (hs, inr p, are, value)) (inr (ks, inr q, are', value')) = value ∙ ap (digits_value 16) (hex-same 88 88 slice hs ks p q) ∙ sym value'

string-same : (slice v w : List ℕ) → IsStringLiteral slice v → IsStringLiteral slice w → v ≡ w
string-same slice v w (body, is, spells) (body', is', spells') =
    let both : 34 ∷ (body ++ 34 ∷ []) ≡ 34 ∷ (body' ++ 34 ∷ []) = sym is ∙ is' in
    let tails : body ++ 34 ∷ [] ≡ body' ++ 34 ∷ [] = cc in
    (closes-once (body' ++ 34 ∷ []) v w [] [] (closes-spelled (body' ++ 34 ∷ []) body v [] (sym tails) spells) (closes-spelled (body' ++ 34 ∷ []) body' w [] refl spells')).0

comment-no_sign : (slice body : List ℕ) (g : SignOf) → slice ≡ 47 ∷ 47 ∷ body → slice ≡ sign_text g → ⊥
comment-no_sign slice body g comment is = both_ways (starts_with nat_eq (sign_text g) (codes "//")) (no_comment g) (ap (λ t. starts_with nat_eq t (codes "//")) (sym is ∙ comment))

-- a slice is one thing of those that begin so
at-same : (start : Start) (slice after : List ℕ) (l m : Lexeme) → AtStart start slice after l → AtStart start slice after m → l ≡ m
at-same White slice after l m (p, w) (q, w') = p ∙ sym q
at-same LeftOutMark slice after l m (p, w) (q, w') = p ∙ sym q
at-same Digit slice after l m (inl (p, f)) (inl (q, f')) = p ∙ sym q
at-same Digit slice after l m (inl (p, f)) (inr (n, q, literal, small, ends)) = absurd (fraction-no_int slice n f literal)
at-same Digit slice after l m (inr (n, p, literal, small, ends)) (inl (q, f)) = absurd (fraction-no_int slice n f literal)
at-same Digit slice after l m (inr (n, p, literal, small, ends)) (inr (n', q, literal', small', ends')) = p ∙ ap (λ k. Token (kind.Int (pos k))) (int-same slice n n' literal literal') ∙ sym q
at-same Quote slice after l m (v, p, literal) (w, q, literal') = p ∙ ap (λ t. Token (kind.Str t)) (string-same slice v w literal literal') ∙ sym q
at-same Hash slice after l m (p, w) (q, w') = p ∙ sym q
at-same Word slice after l m (word, means) (word', means') = sym (means-meaning slice l means) ∙ means-meaning slice m means'
at-same Sign slice after l m (inl (p, w)) (inl (q, w')) = p ∙ sym q
at-same Sign slice after l m (inl (p, (body, is, all))) (inr (g, q, is')) = absurd (comment-no_sign slice body g is is')
at-same Sign slice after l m (inr (g, p, is)) (inl (q, (body, is', all))) = absurd (comment-no_sign slice body g is' is)
at-same Sign slice after l m (inr (g, p, is)) (inr (h, q, is')) = p ∙ ap (λ k. Token (kind.Sign k)) (sign_text-same g h (sym is ∙ is')) ∙ sym q

lexeme-same : (slice after : List ℕ) (l m : Lexeme) → IsLexeme slice after l → IsLexeme slice after m → l ≡ m
lexeme-same slice after l m p q =
    let h = heads slice after l p in
    at-same (start_of h.first) slice after l m h.stands (at_start (start_of h.first) (slice ++ after) h.first (h.others ++ after) slice after m (ap (λ s. s ++ after) h.is) refl refl q)

-- the fronts of a text that have the same length are the same
front-same : (text xs ys as' bs : List ℕ) → text ≡ xs ++ as' → text ≡ ys ++ bs → length xs ≡ length ys → (xs ≡ ys) × (as' ≡ bs)
front-same text xs ys as' bs p q e = (
  sym (take-append_seam xs as') ∙ (λ i. take (e i) ((sym p ∙ q) i)) ∙ take-append_seam ys bs,
  sym (drop-append_seam xs as') ∙ (λ i. drop (e i) ((sym p ∙ q) i)) ∙ drop-append_seam ys bs,
)

-- one lexeme begins a text
pub record Same (slice after : List ℕ) (l : Lexeme) (slice' after' : List ℕ) (m : Lexeme) : Type 0 where
  pub slices : slice ≡ slice'
  pub afters : after ≡ after'
  pub lexemes : l ≡ m

pub begins-same : (text slice after : List ℕ) (l : Lexeme) (slice' after' : List ℕ) (m : Lexeme) → Begins text slice after l → Begins text slice' after' m → Same slice after l slice' after' m
begins-same text slice after l slice' after' m p q =
    let low = q.longest slice after l p.split p.stands in
    let high = p.longest slice' after' m q.split q.stands in
    let size : length slice ≡ length slice' = omega arith in
    let parts = front-same text slice slice' after after' p.split q.split size in
    let there : IsLexeme slice after m = subst (λ s. IsLexeme s after m) (sym parts.0) (subst (λ a. IsLexeme slice' a m) (sym parts.1) q.stands) in
    record { slices = parts.0; afters = parts.1; lexemes = lexeme-same slice after l m p.stands there }
