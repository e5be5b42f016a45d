-- Runs of characters, in a text and in its list of characters.
use Rattle.std.proofs.Common.{◌≡◌, ℕ, ◌-◌, ◌≤◌, Bool, true, false, cond, inl, inr, List, [], ◌∷◌, ◌++◌, length, take, drop, IsUtf8, chars, refl, sym, ap, ◌∙◌, subst, arith, append_assoc}
use Rattle.std.specs.Prelude.{encode_utf8}
use Rattle.std.specs.Str.{IsCharBoundary}
use Rattle.std.specs.List.{list_all}
use Rattle.std.proofs.Math.Seq.{take-append_seam, drop-append_seam}
use Rattle.std.proofs.lemmas.List.{length-append, append-nil}
use Rattle.std.proofs.lemmas.Bool.{and_parts, and_from, cases_Bool}
use Rattle.std.proofs.lemmas.Str.{IsCharBoundary-at_seam, IsUtf8-take, chars_past_char, chars-append, chars-nil}
use Rattle.bal_lexer.specs.Lexemes.{begins_with}
use Rattle.bal_lexer.specs.Runs.{run, after_run}

-- a run that what follows doesn't go on with
pub run-append : (test : ℕ → Bool) (xs ys : List ℕ) → list_all test xs ≡ true → begins_with test ys ≡ false → run test (xs ++ ys) ≡ xs
run-append test [] [] all stop = refl
run-append test [] (y ∷ ys) all stop = rw stop refl
run-append test (x ∷ xs) ys all stop =
    let h = and_parts (test x) (list_all test xs) all in
    rw h.0 (ap (λ l. x ∷ l) (run-append test xs ys h.1 stop))

pub after_run-append : (test : ℕ → Bool) (xs ys : List ℕ) → list_all test xs ≡ true → begins_with test ys ≡ false → after_run test (xs ++ ys) ≡ ys
after_run-append test [] [] all stop = refl
after_run-append test [] (y ∷ ys) all stop = rw stop refl
after_run-append test (x ∷ xs) ys all stop =
    let h = and_parts (test x) (list_all test xs) all in
    rw h.0 (after_run-append test xs ys h.1 stop)

-- a list is its run and what follows it, all of the run passes, and what follows doesn't go on with it
pub run-split : (test : ℕ → Bool) (xs : List ℕ) → xs ≡ run test xs ++ after_run test xs
run-split test [] = refl
run-split test (x ∷ xs) = elim (test x) as (λ b. x ∷ xs ≡ cond b (x ∷ run test xs) [] ++ cond b (after_run test xs) (x ∷ xs)) [ true ↦ ap (λ l. x ∷ l) (run-split test xs) | false ↦ refl ]

pub run-all : (test : ℕ → Bool) (xs : List ℕ) → list_all test (run test xs) ≡ true
run-all test [] = refl
run-all test (x ∷ xs) = elim (cases_Bool (test x)) [ inl passes ↦ rw (passes, passes) (run-all test xs) | inr fails ↦ rw fails refl ]

pub after_run-stops : (test : ℕ → Bool) (xs : List ℕ) → begins_with test (after_run test xs) ≡ false
after_run-stops test [] = refl
after_run-stops test (x ∷ xs) = elim (cases_Bool (test x)) [ inl passes ↦ rw passes (after_run-stops test xs) | inr fails ↦ rw fails fails ]

pub list_all-push : (test : ℕ → Bool) (xs : List ℕ) (y : ℕ) → list_all test xs ≡ true → test y ≡ true → list_all test (xs ++ y ∷ []) ≡ true
list_all-push test [] y all pass = rw pass refl
list_all-push test (x ∷ xs) y all pass =
    let h = and_parts (test x) (list_all test xs) all in
    rw h.0 (list_all-push test xs y h.1 pass)

-- what stands before a text within a text is a text
pub IsUtf8-front : (bs xs ys : List ℕ) → IsUtf8 bs → bs ≡ xs ++ ys → IsUtf8 ys → IsUtf8 xs
IsUtf8-front bs xs ys whole seam back =
    let cut = IsCharBoundary-at_seam bs xs ys seam back in
    subst IsUtf8 (ap (take (length xs)) seam ∙ take-append_seam xs ys) (IsUtf8-take bs (length xs) whole cut)

-- the text is characters that pass, and then the rest
pub record HasPassed (test : ℕ → Bool) (s rest : List ℕ) : Type 0 where
  pub front : List ℕ
  pub seam : s ≡ front ++ rest
  pub all : list_all test (chars front) ≡ true

-- one more character has passed
pub has_passed-none : (test : ℕ → Bool) (s : List ℕ) → HasPassed test s s
has_passed-none test s = record { front = []; seam = refl; all = rw chars-nil refl }

pub has_passed-more : (test : ℕ → Bool) (s rest after : List ℕ) (c : ℕ) → IsUtf8 s → IsUtf8 rest → IsUtf8 after → HasPassed test s rest → rest ≡ encode_utf8 c ++ after → test c ≡ true → HasPassed test s after
has_passed-more test s rest after c whole text back passed seam passes =
    let front : IsUtf8 passed.front = IsUtf8-front s passed.front rest whole passed.seam text in
    let char : IsUtf8 (encode_utf8 c) = IsUtf8-front rest (encode_utf8 c) after text seam back in
    let one : chars (encode_utf8 c) ≡ c ∷ [] = chars_past_char (encode_utf8 c) [] c char (sym (append-nil (encode_utf8 c))) ∙ ap (λ l. c ∷ l) chars-nil in
    let all : chars (passed.front ++ encode_utf8 c) ≡ chars passed.front ++ c ∷ [] = chars-append passed.front (encode_utf8 c) front ∙ ap (λ l. chars passed.front ++ l) one in
    record {
      front = passed.front ++ encode_utf8 c;
      seam = passed.seam ∙ ap (λ l. passed.front ++ l) seam ∙ sym (append_assoc passed.front (encode_utf8 c) after);
      all = rw all (list_all-push test (chars passed.front) c passed.all passes);
    }

-- where a run ends, the text is the run and what follows it
pub has_passed-run : (test : ℕ → Bool) (s rest : List ℕ) → IsUtf8 s → IsUtf8 rest → HasPassed test s rest → begins_with test (chars rest) ≡ false
    → let n = length s - length rest in (chars (take n s) ≡ run test (chars s)) × (chars (drop n s) ≡ after_run test (chars s)) × IsCharBoundary s n
has_passed-run test s rest whole text passed stops =
    let front : IsUtf8 passed.front = IsUtf8-front s passed.front rest whole passed.seam text in
    let parts : chars s ≡ chars passed.front ++ chars rest = ap chars passed.seam ∙ chars-append passed.front rest front in
    let count : length s - length rest ≡ length passed.front = omega (arith, ap length passed.seam, length-append passed.front rest) in
    let taken : take (length s - length rest) s ≡ passed.front = ap (λ n. take n s) count ∙ ap (take (length passed.front)) passed.seam ∙ take-append_seam passed.front rest in
    let dropped : drop (length s - length rest) s ≡ rest = ap (λ n. drop n s) count ∙ ap (drop (length passed.front)) passed.seam ∙ drop-append_seam passed.front rest in (
      ap chars taken ∙ sym (ap (run test) parts ∙ run-append test (chars passed.front) (chars rest) passed.all stops),
      ap chars dropped ∙ sym (ap (after_run test) parts ∙ after_run-append test (chars passed.front) (chars rest) passed.all stops),
      subst (IsCharBoundary s) (sym count) (IsCharBoundary-at_seam s passed.front rest passed.seam text),
    )

pub list_all-weaker : (p q : ℕ → Bool) (xs : List ℕ) → ((c : ℕ) → p c ≡ true → q c ≡ true) → list_all p xs ≡ true → list_all q xs ≡ true
list_all-weaker p q [] weaker all = refl
list_all-weaker p q (x ∷ xs) weaker all =
    let parts = and_parts (p x) (list_all p xs) all in
    and_from (q x) (list_all q xs) (weaker x parts.0) (list_all-weaker p q xs weaker parts.1)

-- a front that passes is no longer than the run
pub run-longest : (test : ℕ → Bool) (zs xs ys : List ℕ) → zs ≡ xs ++ ys → list_all test xs ≡ true → length xs ≤ length (run test zs)
run-longest test zs xs ys split all = subst (λ l. length xs ≤ length (run test l)) (sym split) (go test xs ys all)
  where
    go : (test : ℕ → Bool) (xs ys : List ℕ) → list_all test xs ≡ true → length xs ≤ length (run test (xs ++ ys))
    go test [] ys all = omega arith
    go test (x ∷ xs) ys all =
        let parts = and_parts (test x) (list_all test xs) all in
        let more = go test xs ys parts.1 in
        rw parts.0 (omega (arith, more))
