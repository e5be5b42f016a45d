-- Lines that are read of bytes that are put together.
use Rattle.std.proofs.Common.{◌≡◌, ◌+◌, ◌-◌, ◌≤◌, ◌<◌, ◌++◌, ℕ, Bool, true, false, List, [], ◌∷◌, Some, length, take, drop, min, not, cond, refl, sym, ◌∙◌, ap, subst, arith, eq-eqb, eqb-true}
use Rattle.std.specs.Prelude.{◌==◌, ◌&&◌, slice_index, nat_lt, if◌then◌else◌}
use Rattle.std.proofs.lemmas.List.{append-nil, append_assoc, get_or_push, length-append, length-take, take-append-drop, take_at}
use Rattle.std.proofs.lemmas.List.Folds.{prefix_len-append}
use Rattle.bal_io.specs.Content.{ReadsLine, first_line, is_line_feed, line_text, without_return}
use Rattle.bal_io.specs.Fronts.{IsWithinLine}
use Rattle.bal_io.proofs.LineReads.{ReadsLine-cut, ReadsLine-ended, ReadsLine-last}
use Rattle.bal_io.proofs.Lines.{before_feed, length-before_first, position_or_len-le-length, position_or_len-take}
use Rattle.whole_input.specs.inner.Ends.{ends_with_return}

-- ---- bytes without a line feed

pub feed-behind : (text rest : List ℕ) → IsWithinLine text → before_feed (text ++ rest) ≡ length text + before_feed rest
feed-behind text rest h =
    let test = eq-eqb (before_feed text) (length text) h in
    prefix_len-append (λ b. not (is_line_feed b)) text rest ∙ ap (λ c. cond c (length text + before_feed rest) (before_feed text)) test

pub first-behind : (text rest : List ℕ) → IsWithinLine text → length (first_line (text ++ rest)) ≡ length text + length (first_line rest)
first-behind text rest h =
    length-before_first is_line_feed (text ++ rest) ∙ feed-behind text rest h ∙ omega (arith, length-before_first is_line_feed rest)

within-two : (a b : List ℕ) → IsWithinLine a → IsWithinLine b → IsWithinLine (a ++ b)
within-two a b h k = feed-behind a b h ∙ omega (arith, k, length-append a b)

within-front : (n : ℕ) (l : List ℕ) → IsWithinLine l → IsWithinLine (take n l)
within-front n l h = position_or_len-take is_line_feed n l ∙ omega (arith, h, length-take n l)

pub within-first : (l : List ℕ) → IsWithinLine (first_line l)
within-first l =
    position_or_len-take is_line_feed (before_feed l) l ∙ omega (arith, length-before_first is_line_feed l)

pub within-return : (text : List ℕ) → IsWithinLine text → IsWithinLine (text ++ 13 ∷ [])
within-return text h = within-two text (13 ∷ []) h refl

-- ---- carriage returns

by-return : (b : Bool) (l : List ℕ) → ends_with_return l ≡ b → without_return l ≡ (if b then take (length l - 1) l else l)
by-return b l e = ap (λ c. if c then take (length l - 1) l else l) e

pub without-one : (l : List ℕ) → ends_with_return l ≡ true → without_return l ≡ take (length l - 1) l
without-one l e = by-return true l e

pub without-none : (l : List ℕ) → ends_with_return l ≡ false → without_return l ≡ l
without-none l e = by-return false l e

is-return : (text : List ℕ) → ends_with_return (text ++ 13 ∷ []) ≡ true
is-return text =
    let size : length (text ++ 13 ∷ []) ≡ length text + 1 = length-append text (13 ∷ []) in
    let last : slice_index (text ++ 13 ∷ []) (length (text ++ 13 ∷ []) - 1) ≡ 13 = get_or_push text 13 0 (length (text ++ 13 ∷ []) - 1) (omega (arith, size)) in
    ap (λ n. nat_lt 0 n && (slice_index (text ++ 13 ∷ []) (length (text ++ 13 ∷ []) - 1) == 13)) size
    ∙ (ap (λ x. nat_lt 0 (length text + 1) && (x == 13)) last ∙ some (length text))
  where
    some : (n : ℕ) → nat_lt 0 (n + 1) && (13 == 13) ≡ true
    some n = grind arith

pub without-end : (text : List ℕ) → without_return (text ++ 13 ∷ []) ≡ text
without-end text =
    without-one (text ++ 13 ∷ []) (is-return text)
    ∙ take_at text (13 ∷ []) (length (text ++ 13 ∷ []) - 1) (omega (arith, length-append text (13 ∷ [])))

within-without : (b : Bool) (l : List ℕ) → ends_with_return l ≡ b → IsWithinLine l → IsWithinLine (without_return l)
within-without true l e h = subst (λ t. IsWithinLine t) (sym (without-one l e)) (within-front (length l - 1) l h)
within-without false l e h = subst (λ t. IsWithinLine t) (sym (without-none l e)) h

-- ---- the text of a first line

pub text-ended : (l : List ℕ) → nat_lt (length (first_line l)) (length l) ≡ true → line_text l ≡ without_return (first_line l)
text-ended l e = ap (λ c. if c then without_return (first_line l) else l) e

pub text-last : (l : List ℕ) → nat_lt (length (first_line l)) (length l) ≡ false → line_text l ≡ l
text-last l e = ap (λ c. if c then without_return (first_line l) else l) e

pub within-text : (b c : Bool) (l : List ℕ) → nat_lt (length (first_line l)) (length l) ≡ b → ends_with_return (first_line l) ≡ c → (b ≡ false → IsWithinLine l) → IsWithinLine (line_text l)
within-text true c l e k h = subst (λ t. IsWithinLine t) (sym (text-ended l e)) (within-without c (first_line l) k (within-first l))
within-text false c l e k h = subst (λ t. IsWithinLine t) (sym (text-last l e)) (h refl)

-- ---- lines

pub reads-ended : (max : ℕ) (text rest : List ℕ) → IsWithinLine text → length text ≤ max → ReadsLine max (Some record { bytes = without_return text; whole = true }) (text ++ 10 ∷ rest) rest
reads-ended max text rest h fits =
    ReadsLine-ended max [] text (text ++ 10 ∷ rest) (text ++ 10 ∷ rest) rest (omega arith) (refl, refl) (text, refl, (refl, h, omega (arith, fits)))

pub reads-last : (max : ℕ) (text : List ℕ) → IsWithinLine text → length text ≤ max → 0 < length text → ReadsLine max (Some record { bytes = text; whole = true }) text []
reads-last max text h fits some =
    ReadsLine-last max text text text [] [] fits some (sym (append-nil text), h) ([], sym (append-nil text), (refl, refl, refl))

pub reads-cut : (max : ℕ) (text rest : List ℕ) → IsWithinLine text → length text ≡ max → 0 < length (first_line rest) → ReadsLine max (Some record { bytes = text; whole = false }) (text ++ rest) rest
reads-cut max text rest h full more =
    ReadsLine-cut max [] text (text ++ rest) (text ++ rest) rest (omega arith) (refl, refl)
    (text, refl, (refl, omega (arith, full), omega (arith, full, more, first-behind text rest h)))
