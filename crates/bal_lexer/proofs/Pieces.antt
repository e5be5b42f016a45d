-- Reading a piece of a string literal gives what stands there, and finds each piece that does.
use Rattle.std.proofs.Common.{◌≡◌, ℕ, ◌<◌, ◌≤◌, true, false, cond, ◌&&◌, ◌||◌, ◌==◌, nat_lt, nat_le, List, [], ◌∷◌, ◌++◌, length, Option, Some, None, codes, inl, inr, refl, sym, ap, ◌∙◌, subst, arith, append_assoc}
use Rattle.std.specs.Prelude.{option_map}
use Rattle.std.specs.Char.{is_ascii_hexdigit, IsScalar}
use Rattle.std.specs.Str.Parse.{digits_value}
use Rattle.std.proofs.lemmas.Bool.{cases_Bool, and_parts, or_cases, eqb-true, ltb-true, leb-true, lt-ltb, le-leb, both_ways}
use Rattle.std.proofs.lemmas.Option.{cond_some, same_Some, option_and_then_some}
use Rattle.std.proofs.lemmas.List.{length-append}
use lib.Utf8.{scalar}
use Rattle.bal_lexer.specs.Lexemes.{is_plain, IsEscape, StandsFor, AreDigits}
use Rattle.bal_lexer.specs.Runs.{run, after_run}
use Rattle.bal_lexer.specs.Strings.{after_char, scalar_at, code_point_at, escape_at, piece_at}
use Rattle.bal_lexer.proofs.Runs.{run-append, after_run-append, run-split, run-all}

-- what a piece is and what follows it
pub record Stands (text : List ℕ) (c : ℕ) (rest : List ℕ) : Type 0 where
  pub piece : List ℕ
  pub seam : text ≡ piece ++ rest
  pub stands : StandsFor piece c

pub after_char-some : (c : ℕ) (text rest : List ℕ) → after_char c text ≡ Some rest → text ≡ c ∷ rest
after_char-some c [] rest h = cc
after_char-some c (d ∷ text) rest h =
    let parts = cond_some (d == c) text rest h in
    let first = eqb-true d c parts.0 in
    ap (λ x. x ∷ text) first ∙ ap (λ l. c ∷ l) parts.1

option_map_some : {A B : Type 0} (f : A → B) (o : Option A) (y : B) → option_map f o ≡ Some y → (x : A) × (o ≡ Some x) × (f x ≡ y)
option_map_some f None y h = cc
option_map_some f (Some x) y h = (x, refl, cc)

pub scalar_at-some : (digits : List ℕ) (c : ℕ) → scalar_at digits ≡ Some c → (0 < length digits) × (length digits ≤ 6) × (c ≡ digits_value 16 digits) × IsScalar c
unfolding scalar_at
scalar_at-some digits c h =
    let parts = cond_some ((nat_lt 0 (length digits) && nat_le (length digits) 6) && scalar (digits_value 16 digits)) (digits_value 16 digits) c h in
    let tests = and_parts (nat_lt 0 (length digits) && nat_le (length digits) 6) (scalar (digits_value 16 digits)) parts.0 in
    let size = and_parts (nat_lt 0 (length digits)) (nat_le (length digits) 6) tests.0 in
    (ltb-true 0 (length digits) size.0, leb-true (length digits) 6 size.1, sym parts.1, subst IsScalar parts.1 tests.1)

not-empty : (xs : List ℕ) → 0 < length xs → xs ≡ [] → ⊥
not-empty [] some e = absurd (omega arith)
not-empty (x ∷ xs) some e = cc

-- an escape by a number, after its `u`
code_point_at-some : (text : List ℕ) (c : ℕ) (rest : List ℕ) → code_point_at text ≡ Some (c, rest) → Stands (92 ∷ 117 ∷ text) c rest
unfolding code_point_at
code_point_at-some text c rest h =
    option_and_then_some _ (after_char 123 text) (c, rest) h (λ body opens h1.
    option_and_then_some _ (scalar_at (run is_ascii_hexdigit body)) (c, rest) h1 (λ d number h2.
    let digits = run is_ascii_hexdigit body in
    let closed = option_map_some (λ after. (d, after)) (after_char 125 (after_run is_ascii_hexdigit body)) (c, rest) h2 in
    let same : d ≡ c = ap (λ p. p.0) closed.2 in
    let after : closed.0 ≡ rest = ap (λ p. p.1) closed.2 in
    let facts = scalar_at-some digits d number in
    let close = after_char-some 125 (after_run is_ascii_hexdigit body) closed.0 closed.1 in
    let whole : text ≡ 123 ∷ (digits ++ 125 ∷ rest) =
    after_char-some 123 text body opens ∙ ap (λ l. 123 ∷ l) (run-split is_ascii_hexdigit body ∙ ap (λ l. digits ++ l) (close ∙ ap (λ l. 125 ∷ l) after)) in
    record {
      piece = codes "\\u{" ++ digits ++ codes "}";
      seam = ap (λ l. 92 ∷ 117 ∷ l) (whole ∙ ap (λ l. 123 ∷ l) (sym (append_assoc digits (125 ∷ []) rest)));
      stands = inr (inr (digits, refl, (not-empty digits facts.0, run-all is_ascii_hexdigit body), facts.1, sym same ∙ facts.2, subst IsScalar same facts.3));
    }))

by_letter : (letter c : ℕ) (rest after : List ℕ) (d : ℕ) → IsEscape letter c → ◌≡◌ {A = Option (ℕ × List ℕ)} (Some (c, rest)) (Some (d, after)) → Stands (92 ∷ letter ∷ rest) d after
by_letter letter c rest after d escape e =
    let pair = same_Some (c, rest) (d, after) e in
    let same : c ≡ d = ap (λ p. p.0) pair in
    let rests : rest ≡ after = ap (λ p. p.1) pair in
    record {
      piece = 92 ∷ letter ∷ [];
      seam = ap (λ l. 92 ∷ letter ∷ l) rests;
      stands = inr (inl (letter, refl, subst (IsEscape letter) same escape));
    }

escape_at-some : (text : List ℕ) (c : ℕ) (rest : List ℕ) → escape_at text ≡ Some (c, rest) → Stands (92 ∷ text) c rest
unfolding escape_at
escape_at-some [] c rest h = cc
escape_at-some (letter ∷ text) c rest h =
    elim (cases_Bool ((letter == 92) || (letter == 34))) [
      | inl itself ↦
          by_letter letter letter text rest c (elim (or_cases (letter == 92) (letter == 34) itself) [ inl a ↦ inl (eqb-true letter 92 a, eqb-true letter 92 a) | inr a ↦ inr (inl (eqb-true letter 34 a, eqb-true letter 34 a)) ]) (rw itself at h)
      | inr other ↦ let h1 = rw other at h in elim (cases_Bool (letter == 110)) [
        | inl n ↦ by_letter letter 10 text rest c (inr (inr (inl (eqb-true letter 110 n, refl)))) (rw n at h1)
        | inr not_n ↦ let h2 = rw not_n at h1 in elim (cases_Bool (letter == 114)) [
          | inl r ↦ by_letter letter 13 text rest c (inr (inr (inr (inl (eqb-true letter 114 r, refl))))) (rw r at h2)
          | inr not_r ↦ let h3 = rw not_r at h2 in elim (cases_Bool (letter == 116)) [
            | inl t ↦ by_letter letter 9 text rest c (inr (inr (inr (inr (eqb-true letter 116 t, refl))))) (rw t at h3)
            | inr not_t ↦ let h4 = rw not_t at h3 in elim (cases_Bool (letter == 117)) [
              | inl u ↦ subst (λ l. Stands (92 ∷ l ∷ text) c rest) (sym (eqb-true letter 117 u)) (code_point_at-some text c rest (rw u at h4))
              | inr not_u ↦ let bad = rw not_u at h4 in cc
            ]
          ]
        ]
      ]
    ]

pub piece_at-some : (text : List ℕ) (c : ℕ) (rest : List ℕ) → piece_at text ≡ Some (c, rest) → Stands text c rest
unfolding piece_at
piece_at-some [] c rest h = cc
piece_at-some (d ∷ text) c rest h =
    elim (cases_Bool (d == 92)) [
      | inl escape ↦ subst (λ e. Stands (e ∷ text) c rest) (sym (eqb-true d 92 escape)) (escape_at-some text c rest (rw escape at h))
      | inr other ↦
          let h1 : cond (is_plain d) (Some (d, text)) None ≡ Some (c, rest) = sym (ap (λ b. cond b (escape_at text) (cond (is_plain d) (Some (d, text)) None)) other) ∙ h in
          let parts = cond_some (is_plain d) (d, text) (c, rest) h1 in
          let same : d ≡ c = ap (λ p. p.0) parts.1 in
          let after : text ≡ rest = ap (λ p. p.1) parts.1 in
          record { piece = c ∷ []; seam = ap (λ e. e ∷ text) same ∙ ap (λ l. c ∷ l) after; stands = inl (refl, subst (λ e. is_plain e ≡ true) same parts.0) }
    ]

pub scalar_at-digits : (digits : List ℕ) (c : ℕ) → 0 < length digits → length digits ≤ 6 → c ≡ digits_value 16 digits → IsScalar c → scalar_at digits ≡ Some c
unfolding scalar_at
scalar_at-digits digits c some few is scalar' =
    let number : scalar (digits_value 16 digits) ≡ true = subst IsScalar is scalar' in
    rw (lt-ltb 0 (length digits) some, le-leb (length digits) 6 few, number) (ap Some (sym is))

some-length : (xs : List ℕ) → (xs ≡ [] → ⊥) → 0 < length xs
some-length [] nonempty = absurd (nonempty refl)
some-length (x ∷ xs) nonempty = omega arith

-- an escape by a number is read
code_point_at-piece : (digits rest : List ℕ) (c : ℕ) → AreDigits is_ascii_hexdigit digits → length digits ≤ 6 → c ≡ digits_value 16 digits → IsScalar c
    → code_point_at (123 ∷ ((digits ++ 125 ∷ []) ++ rest)) ≡ Some (c, rest)
unfolding code_point_at
code_point_at-piece digits rest c hex few is scalar' =
    let body : (digits ++ 125 ∷ []) ++ rest ≡ digits ++ 125 ∷ rest = append_assoc digits (125 ∷ []) rest in
    let ran : run is_ascii_hexdigit ((digits ++ 125 ∷ []) ++ rest) ≡ digits = ap (run is_ascii_hexdigit) body ∙ run-append is_ascii_hexdigit digits (125 ∷ rest) hex.1 refl in
    let after : after_run is_ascii_hexdigit ((digits ++ 125 ∷ []) ++ rest) ≡ 125 ∷ rest = ap (after_run is_ascii_hexdigit) body ∙ after_run-append is_ascii_hexdigit digits (125 ∷ rest) hex.1 refl in
    let number = scalar_at-digits digits c (some-length digits hex.0) few is scalar' in
    rw (ran, number, after) refl

escape_at-letter : (letter c : ℕ) (rest : List ℕ) → IsEscape letter c → escape_at (letter ∷ rest) ≡ Some (c, rest)
unfolding escape_at
escape_at-letter letter c rest (inl (l, e)) = rw (l, e) refl
escape_at-letter letter c rest (inr (inl (l, e))) = rw (l, e) refl
escape_at-letter letter c rest (inr (inr (inl (l, e)))) = rw (l, e) refl
escape_at-letter letter c rest (inr (inr (inr (inl (l, e))))) = rw (l, e) refl
escape_at-letter letter c rest (inr (inr (inr (inr (l, e))))) = rw (l, e) refl

piece_at-escape : (rest : List ℕ) → piece_at (92 ∷ rest) ≡ escape_at rest
unfolding piece_at
piece_at-escape rest = refl

escape_at-number : (rest : List ℕ) → escape_at (117 ∷ rest) ≡ code_point_at rest
unfolding escape_at
escape_at-number rest = refl

plain-not_92 : (c : ℕ) → is_plain c ≡ true → (c == 92) ≡ false
plain-not_92 c plain = elim (cases_Bool (c == 92)) [ inl e ↦ let bad = subst (λ d. is_plain d ≡ true) (eqb-true c 92 e) plain in absurd (both_ways false refl bad) | inr no' ↦ no' ]

piece_at-plain : (c : ℕ) (rest : List ℕ) → is_plain c ≡ true → piece_at (c ∷ rest) ≡ Some (c, rest)
unfolding piece_at
piece_at-plain c rest plain =
    ap (λ b. cond b (escape_at rest) (cond (is_plain c) (Some (c, rest)) None)) (plain-not_92 c plain) ∙ ap (λ b. cond b (Some (c, rest)) None) plain

-- a piece that stands at the front is read
pub piece_at-stands : (piece rest : List ℕ) (c : ℕ) → StandsFor piece c → piece_at (piece ++ rest) ≡ Some (c, rest)
piece_at-stands piece rest c (inl (is, plain)) = ap (λ p. piece_at (p ++ rest)) is ∙ piece_at-plain c rest plain
piece_at-stands piece rest c (inr (inl (letter, is, escape))) = ap (λ p. piece_at (p ++ rest)) is ∙ piece_at-escape (letter ∷ rest) ∙ escape_at-letter letter c rest escape
piece_at-stands piece rest c (inr (inr (digits, is, hex, few, value, scalar'))) =
    ap (λ p. piece_at (p ++ rest)) is ∙ piece_at-escape (117 ∷ 123 ∷ ((digits ++ 125 ∷ []) ++ rest)) ∙ escape_at-number (123 ∷ ((digits ++ 125 ∷ []) ++ rest)) ∙ code_point_at-piece digits rest c hex few value scalar'

-- no piece stands at a quote
pub piece_at-quote : (after : List ℕ) → piece_at (34 ∷ after) ≡ None
unfolding piece_at
piece_at-quote after = refl

StandsFor-some : (piece : List ℕ) (c : ℕ) → StandsFor piece c → 0 < length piece
StandsFor-some piece c (inl (is, plain)) = subst (λ p. 0 < length p) (sym is) (omega arith)
StandsFor-some piece c (inr (inl (letter, is, escape))) = subst (λ p. 0 < length p) (sym is) (omega arith)
StandsFor-some piece c (inr (inr (digits, is, hex, few, value, scalar'))) = subst (λ p. 0 < length p) (sym is) (omega arith)

pub piece_at-shorter : (text : List ℕ) (c : ℕ) (rest : List ℕ) → piece_at text ≡ Some (c, rest) → length rest < length text
piece_at-shorter text c rest h =
    let found = piece_at-some text c rest h in
    let some = StandsFor-some found.piece c found.stands in
    omega (arith, ap length found.seam, length-append found.piece rest, some)
