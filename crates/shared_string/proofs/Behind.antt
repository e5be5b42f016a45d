-- What is left behind code points of a text, and what stands in front of it.
use Rattle.std.proofs.Common.{◌≡◌, ◌+◌, ◌-◌, ◌≤◌, ℕ, zero, suc, List, [], ◌∷◌, ◌++◌, Option, Some, None, MatchOption, length, drop, take, slice_get, IsUtf8, chars, encode_utf8, refl, sym, ap, subst, ◌∙◌, append_assoc, arith, length-append, length-drop}
use Rattle.std.specs.Str.{IsCharBoundary}
use Rattle.std.proofs.Math.Seq.{take-append_seam}
use Rattle.std.proofs.lemmas.List.{drop-drop}
use Rattle.std.proofs.lemmas.Str.{IsCharBoundary-at_seam, IsUtf8-take, chars-append, chars-nil, chars_past_char}
use Rattle.shared_string.specs.Behind.{IsBehind}

pub behind-none : (text : List ℕ) → IsUtf8 text → IsBehind text 0 text
behind-none text u = record { front = []; seam = refl; text_left = u; points = refl }

behind-nothing : (text : List ℕ) → length text ≡ 0 → IsUtf8 text → IsBehind text 1 text
behind-nothing [] e u = record { front = []; seam = refl; text_left = u; points = rw chars-nil refl }
behind-nothing (b ∷ bs) e u = absurd (omega (arith, e))

-- behind the first code point, or nothing: `S` is that the iterator is what it was
pub behind-first : {S : Type 0} (text left rest new : List ℕ) (first : Option ℕ) → IsUtf8 text → IsUtf8 left → rest ≡ text → left ≡ new → (S → new ≡ rest)
    → MatchOption first ((length rest ≡ 0) × S) (λ c. rest ≡ encode_utf8 c ++ new) → IsBehind text 1 left
behind-first text left rest new None u v is now stays (empty, same) =
    subst (IsBehind text 1) (sym (now ∙ (stays same ∙ is))) (behind-nothing text (sym (ap length is) ∙ empty) u)
behind-first text left rest new (Some c) u v is now stays seam =
    let whole : text ≡ encode_utf8 c ++ left = sym is ∙ (seam ∙ ap (λ bs. encode_utf8 c ++ bs) (sym now)) in
    record { front = encode_utf8 c; seam = whole; text_left = v; points = sym (ap (drop 1) (chars_past_char text left c u whole)) }

-- behind code points behind code points
pub behind-more : (text mid left : List ℕ) (m n : ℕ) → IsBehind text m mid → IsBehind mid n left → IsBehind text (m + n) left
behind-more text mid left m n p q = record {
  front = p.front ++ q.front;
  seam = p.seam ∙ ap (λ bs. p.front ++ bs) q.seam ∙ sym (append_assoc p.front q.front left);
  text_left = q.text_left;
  points = q.points ∙ ap (drop n) p.points ∙ drop-drop n m (chars text);
}

pub slice_get-drop : {X : Type 0} (xs : List X) (n : ℕ) → slice_get (drop n xs) 0 ≡ slice_get xs n
slice_get-drop [] zero = refl
slice_get-drop [] (suc n) = refl
slice_get-drop (x ∷ xs) zero = refl
slice_get-drop (x ∷ xs) (suc n) = slice_get-drop xs n

-- what stands in front of a text within a text is a text
IsUtf8-front : (text front left : List ℕ) → IsUtf8 text → text ≡ front ++ left → IsUtf8 left → IsUtf8 front
IsUtf8-front text front left u seam v =
    subst IsUtf8 (ap (take (length front)) seam ∙ take-append_seam front left) (IsUtf8-take text (length front) u (IsCharBoundary-at_seam text front left seam v))

front-points : (xs front left : List ℕ) (n : ℕ) → n ≤ length xs → xs ≡ front ++ left → left ≡ drop n xs → front ≡ take n xs
front-points xs front left n inside seam behind =
    let size : length front ≡ n = omega (arith, inside, ap length seam ∙ length-append front left, ap length behind ∙ length-drop n xs) in
    sym (take-append_seam front left) ∙ (λ i. take (size i) (sym seam i))

module _ (text left : List ℕ) (n : ℕ) (behind : IsBehind text n left) where
  front-length : length text - length left ≡ length behind.front
  front-length = omega (arith, ap length behind.seam ∙ length-append behind.front left)

  pub left-shorter : length left ≤ length text
  left-shorter = omega (arith, ap length behind.seam ∙ length-append behind.front left)

  -- a text may be cut in front of what is left
  pub cut-boundary : IsCharBoundary text (length text - length left)
  cut-boundary = subst (IsCharBoundary text) (sym front-length) (IsCharBoundary-at_seam text behind.front left behind.seam behind.text_left)

  -- and the code points in front of the cut are those that were passed
  pub cut-points : IsUtf8 text → n ≤ length (chars text) → chars (take (length text - length left) text) ≡ take n (chars text)
  cut-points u inside =
      let front : IsUtf8 behind.front = IsUtf8-front text behind.front left u behind.seam behind.text_left in
      ap chars ((λ i. take (front-length i) (behind.seam i)) ∙ take-append_seam behind.front left)
      ∙ front-points (chars text) (chars behind.front) (chars left) n inside (ap chars behind.seam ∙ chars-append behind.front left front) behind.points
