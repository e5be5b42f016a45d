-- The loop over the pieces of a string literal.
use Rattle.std.proofs.Common.{◌≡◌, ℕ, ◌≤◌, List, [], ◌∷◌, ◌++◌, length, take, Some, None, IsUtf8, chars, refl, sym, ap, ◌∙◌, subst, arith, append_assoc}
use Rattle.std.specs.Prelude.{encode_utf8}
use Rattle.std.proofs.Math.Seq.{take-append_seam, drop-append_seam}
use Rattle.std.proofs.lemmas.List.{append-nil, length-append}
use Rattle.std.proofs.lemmas.Str.{IsUtf8-drop, IsCharBoundary-from_take, chars-append, chars_past_char, chars-nil}
use Rattle.std.proofs.lemmas.Option.{same_Some}
use Rattle.bal_lexer.specs.Strings.{after_char, piece_at, Closes}
use Rattle.bal_lexer.proofs.Pieces.{after_char-some, piece_at-quote}

-- the characters of a text that grows by one
pub chars-push : (bs : List ℕ) (c : ℕ) → IsUtf8 bs → IsUtf8 (bs ++ encode_utf8 c) → chars (bs ++ encode_utf8 c) ≡ chars bs ++ c ∷ []
chars-push bs c text whole =
    let front : take (length bs) (bs ++ encode_utf8 c) ≡ bs = take-append_seam bs (encode_utf8 c) in
    let within : length bs ≤ length (bs ++ encode_utf8 c) = omega (arith, length-append bs (encode_utf8 c)) in
    let cut = IsCharBoundary-from_take (bs ++ encode_utf8 c) (length bs) whole within (subst IsUtf8 (sym front) text) in
    let char : IsUtf8 (encode_utf8 c) = subst IsUtf8 (drop-append_seam bs (encode_utf8 c)) (IsUtf8-drop (bs ++ encode_utf8 c) (length bs) whole cut) in
    let one : chars (encode_utf8 c) ≡ c ∷ [] = chars_past_char (encode_utf8 c) [] c char (sym (append-nil (encode_utf8 c))) ∙ ap (λ l. c ∷ l) chars-nil in
    chars-append bs (encode_utf8 c) text ∙ ap (λ l. chars bs ++ l) one

-- the literal's body has been read up to the rest, as `done`
pub record HasRead (text done rest : List ℕ) : Type 0 where
  pub forth : (value after : List ℕ) → Closes rest value after → Closes text (done ++ value) after
  pub back : (value after : List ℕ) → Closes text value after → (more : List ℕ) × (value ≡ done ++ more) × Closes rest more after

pub has_read-none : (text : List ℕ) → HasRead text [] text
has_read-none text = record { forth = λ value after h. h; back = λ value after h. (value, refl, h) }

next_piece : (rest : List ℕ) (c : ℕ) (after : List ℕ) → piece_at rest ≡ Some (c, after) → (value end : List ℕ) → Closes rest value end → (more : List ℕ) × (value ≡ c ∷ more) × Closes after more end
next_piece rest c after h [] end closes = let bad = sym h ∙ ap piece_at closes ∙ piece_at-quote end in cc
next_piece rest c after h (d ∷ value) end (next, e, closes) =
    let same = sym e ∙ h in
    let char : d ≡ c = ap (λ p. p.0) (same_Some (d, next) (c, after) same) in
    let rests : next ≡ after = ap (λ p. p.1) (same_Some (d, next) (c, after) same) in
    (value, ap (λ x. x ∷ value) char, subst (λ r. Closes r value end) rests closes)

pub has_read-more : (text done rest : List ℕ) (c : ℕ) (after : List ℕ) → HasRead text done rest → piece_at rest ≡ Some (c, after) → HasRead text (done ++ c ∷ []) after
has_read-more text done rest c after read h = record {
  forth = λ value end closes. subst (λ v. Closes text v end) (sym (append_assoc done (c ∷ []) value)) (read.forth (c ∷ value) end (after, h, closes));
  back = λ value end closes.
      let (more, is, closed) = read.back value end closes in
      let (next, first, tail) = next_piece rest c after h more end closed in
      (next, is ∙ ap (λ l. done ++ l) first ∙ sym (append_assoc done (c ∷ []) next), tail);
}

-- the literal ends at the quote
pub has_read-all : (text done rest after : List ℕ) → HasRead text done rest → after_char 34 rest ≡ Some after → Closes text done after
has_read-all text done rest after read h = subst (λ v. Closes text v after) (append-nil done) (read.forth [] after (after_char-some 34 rest after h))

quote-after_char : (after : List ℕ) → after_char 34 (34 ∷ after) ≡ Some after
quote-after_char after = refl

-- no literal is there where no piece and no quote is
pub has_read-bad : (text done rest : List ℕ) → HasRead text done rest → piece_at rest ≡ None → after_char 34 rest ≡ None → (value after : List ℕ) → Closes text value after → ⊥
has_read-bad text done rest read no_piece no_quote value after closes =
    let (more, is, closed) = read.back value after closes in
    bad more after closed
  where
    bad : (more end : List ℕ) → Closes rest more end → ⊥
    bad [] end closed = let e = sym no_quote ∙ ap (after_char 34) closed ∙ quote-after_char end in cc
    bad (c ∷ more) end (next, e, closed) = let f = sym no_piece ∙ e in cc
