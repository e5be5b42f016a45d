-- The longest lexeme where a digit stands.
use Rattle.std.proofs.Common.{◌≡◌, ℕ, ◌<◌, ◌≤◌, Bool, true, false, cond, not, ◌&&◌, ◌||◌, ◌==◌, nat_lt, nat_le, pos, List, [], ◌∷◌, ◌++◌, length, Option, Some, None, inl, inr, refl, sym, ap, ◌∙◌, subst, arith, append_assoc}
use Rattle.std.specs.Prelude.{◌⊎◌}
use Rattle.std.specs.List.{list_all}
use Rattle.std.specs.Option.{option_map_or}
use Rattle.std.specs.Char.{is_ascii_digit, is_ascii_hexdigit}
use Rattle.std.specs.Str.Parse.{digits_value}
use Rattle.std.proofs.lemmas.List.{length-append}
use Rattle.std.proofs.lemmas.Option.{same_Some, cond_some}
use Rattle.std.proofs.lemmas.Bool.{cases_Bool, and_parts, or_cases, eqb-true, eq-eqb, ne_eqb, ltb-true, leb-true, both_ways, not-true}
use Rattle.std.proofs.lemmas.Bool.Decides.{nat_tests}
use Rattle.unicode_ident.specs.Ident.{is_xid_continue}
use Rattle.unicode_ident.proofs.IdentLemmas.{is_xid_continue-ascii}
use Rattle.bal_base.specs.Limits.{greatest_int}
use Rattle.bal_base.specs.declared.token.TokenKind.TheVariants as kind
use Rattle.bal_lexer.specs.declared.lexeme.Lexeme.{Lexeme}
use Rattle.bal_lexer.specs.declared.lexeme.Lexeme.TheVariants.{LeftOut, Token}
use Rattle.bal_lexer.specs.declared.lexeme.Start.TheVariants.{Digit}
use Rattle.bal_lexer.specs.Lexemes.{IsIntLiteral, IsFraction, AreDigits, begins_with}
use Rattle.bal_lexer.specs.Runs.{run, after_run}
use Rattle.bal_lexer.specs.Numbers.{after_fraction, after_x, int_at, hexadecimal_at, zero_at, literal_at, number_at}
use Rattle.bal_lexer.specs.Firsts.{FirstAt}
use Rattle.bal_lexer.proofs.Runs.{run-append, after_run-append, run-split, run-all, run-longest}
use Rattle.bal_lexer.proofs.IntLemmas.{int_at-some}

-- a digit is a character of a word
digit-continues : (c : ℕ) → is_ascii_digit c ≡ true → is_xid_continue c ≡ true
digit-continues c digit =
    let small : c < 128 = grind (arith, nat_tests) in
    is_xid_continue-ascii c small ∙ grind (arith, nat_tests)

hex-continues : (c : ℕ) → is_ascii_hexdigit c ≡ true → is_xid_continue c ≡ true
hex-continues c digit =
    let small : c < 128 = grind (arith, nat_tests) in
    is_xid_continue-ascii c small ∙ grind (arith, nat_tests)

stops : (test : ℕ → Bool) → ((c : ℕ) → test c ≡ true → is_xid_continue c ≡ true) → (after : List ℕ) → begins_with is_xid_continue after ≡ false → begins_with test after ≡ false
stops test goes [] ends = refl
stops test goes (c ∷ cs) ends = elim (cases_Bool (test c)) [ inl passes ↦ absurd (both_ways (is_xid_continue c) ends (goes c passes)) | inr fails ↦ fails ]

-- an int literal with nothing of a word after it
pub record IsBoundedInt (slice after : List ℕ) (n : ℕ) : Type 0 where
  pub literal : IsIntLiteral slice n
  pub small : n ≤ greatest_int
  pub ends : begins_with is_xid_continue after ≡ false

some-digits : (test : ℕ → Bool) (ds : List ℕ) → AreDigits test ds → 0 < length ds
some-digits test [] are = absurd (are.0 refl)
some-digits test (d ∷ ds) are = omega arith

after_x-ends : (after : List ℕ) → begins_with is_xid_continue after ≡ false → after_x after ≡ None
after_x-ends [] ends = refl
after_x-ends (c ∷ cs) ends =
    elim (cases_Bool ((c == 120) || (c == 88))) [
      | inl x ↦ absurd (both_ways (is_xid_continue c) ends (elim (or_cases (c == 120) (c == 88) x) [
        | inl low ↦ ap is_xid_continue (eqb-true c 120 low) ∙ is_xid_continue-ascii 120 (omega arith)
        | inr up ↦ ap is_xid_continue (eqb-true c 88 up) ∙ is_xid_continue-ascii 88 (omega arith)
      ]))
      | inr other ↦ rw other refl
    ]

hexadecimal-int : (digits after : List ℕ) (n : ℕ) → AreDigits is_ascii_hexdigit digits → n ≡ digits_value 16 digits → n ≤ greatest_int → begins_with is_xid_continue after ≡ false
    → hexadecimal_at (digits ++ after) ≡ Some (Token (kind.Int (pos n)), after)
hexadecimal-int digits after n are value small ends =
    let stop = stops is_ascii_hexdigit hex-continues after ends in
    let ran = run-append is_ascii_hexdigit digits after are.1 stop in
    let rest = after_run-append is_ascii_hexdigit digits after are.1 stop in
    (λ i. int_at 16 (ran i) (rest i)) ∙ int_at-some 16 digits after ends (some-digits is_ascii_hexdigit digits are) (subst (λ m. m ≤ greatest_int) value small)
    ∙ ap (λ m. Some (Token (kind.Int (pos m)), after)) (sym value)

-- an int literal at the front is read
literal_at-int : (slice after : List ℕ) (n : ℕ) → IsBoundedInt slice after n → literal_at (slice ++ after) ≡ Some (Token (kind.Int (pos n)), after)
literal_at-int slice after n int = go int.literal
  where
    go : IsIntLiteral slice n → literal_at (slice ++ after) ≡ Some (Token (kind.Int (pos n)), after)
    go (inl (inl is, value)) =
        let value' : n ≡ digits_value 10 (48 ∷ []) = value ∙ ap (digits_value 10) is in
        ap (λ s. literal_at (s ++ after)) is
        ∙ ap (λ o. option_map_or hexadecimal_at o (int_at 10 (48 ∷ []) after)) (after_x-ends after int.ends)
        ∙ int_at-some 10 (48 ∷ []) after int.ends (omega arith) (omega arith)
        ∙ ap (λ m. Some (Token (kind.Int (pos m)), after)) (sym value')
    go (inl (inr (c, cs, is, first, all), value)) =
        let stop = stops is_ascii_digit digit-continues after int.ends in
        let digits : list_all is_ascii_digit (c ∷ cs) ≡ true = subst (λ l. list_all is_ascii_digit l ≡ true) is all in
        let ran = run-append is_ascii_digit (c ∷ cs) after digits stop in
        let rest = after_run-append is_ascii_digit (c ∷ cs) after digits stop in
        let value' : n ≡ digits_value 10 (c ∷ cs) = value ∙ ap (digits_value 10) is in
        ap (λ s. literal_at (s ++ after)) is
        ∙ ap (λ b. cond b (zero_at (cs ++ after)) (int_at 10 (run is_ascii_digit (c ∷ (cs ++ after))) (after_run is_ascii_digit (c ∷ (cs ++ after))))) (ne_eqb c 48 first)
        ∙ (λ i. int_at 10 (ran i) (rest i))
        ∙ int_at-some 10 (c ∷ cs) after int.ends (omega arith) (subst (λ m. m ≤ greatest_int) value' int.small)
        ∙ ap (λ m. Some (Token (kind.Int (pos m)), after)) (sym value')
    go (inr (digits, inl is, are, value)) = ap (λ s. literal_at (s ++ after)) is ∙ hexadecimal-int digits after n are value int.small int.ends
    go (inr (digits, inr is, are, value)) = ap (λ s. literal_at (s ++ after)) is ∙ hexadecimal-int digits after n are value int.small int.ends

-- a number with a fraction at the front is found
fraction-found : (text slice rest : List ℕ) → text ≡ slice ++ rest → IsFraction slice → after_fraction (after_run is_ascii_digit text) ≡ Some rest
fraction-found text slice rest split (digits, d, is, are, last) =
    let whole : text ≡ digits ++ (46 ∷ d ∷ rest) = split ∙ ap (λ l. l ++ rest) is ∙ append_assoc digits (46 ∷ d ∷ []) rest in
    ap (λ t. after_fraction (after_run is_ascii_digit t)) whole
    ∙ ap after_fraction (after_run-append is_ascii_digit digits (46 ∷ d ∷ rest) are.1 refl)
    ∙ ap (λ b. cond b (Some rest) None) last

fraction-is : (after rest : List ℕ) → after_fraction after ≡ Some rest → (d : ℕ) × (after ≡ 46 ∷ d ∷ rest) × (is_ascii_digit d ≡ true)
fraction-is [] rest h = cc
fraction-is (c ∷ []) rest h = cc
fraction-is (c ∷ d ∷ cs) rest h =
    let parts = cond_some ((c == 46) && is_ascii_digit d) cs rest h in
    let tests = and_parts (c == 46) (is_ascii_digit d) parts.0 in
    let point : c ≡ 46 = eqb-true c 46 tests.0 in
    (d, (λ i. point i ∷ d ∷ parts.1 i), tests.1)

-- what is read as an int is one
int_at-is : (radix : ℕ) (digits after : List ℕ) (lexeme : Lexeme) (rest : List ℕ) → int_at radix digits after ≡ Some (lexeme, rest)
    → (lexeme ≡ Token (kind.Int (pos (digits_value radix digits)))) × (rest ≡ after) × (0 < length digits) × (digits_value radix digits ≤ greatest_int) × (begins_with is_xid_continue after ≡ false)
unfolding int_at
int_at-is radix digits after lexeme rest h =
    let tests = (not (begins_with is_xid_continue after) && nat_lt 0 (length digits)) && nat_le (digits_value radix digits) greatest_int in
    let parts = cond_some tests (Token (kind.Int (pos (digits_value radix digits))), after) (lexeme, rest) h in
    let both = and_parts (not (begins_with is_xid_continue after) && nat_lt 0 (length digits)) (nat_le (digits_value radix digits) greatest_int) parts.0 in
    let front = and_parts (not (begins_with is_xid_continue after)) (nat_lt 0 (length digits)) both.0 in
    (sym (ap (λ p. p.0) parts.1), sym (ap (λ p. p.1) parts.1), ltb-true 0 (length digits) front.1, leb-true (digits_value radix digits) greatest_int both.1, not-true (begins_with is_xid_continue after) front.0)

-- a literal that was read: its slice and its number
pub record ReadsInt (text : List ℕ) (lexeme : Lexeme) (rest : List ℕ) : Type 0 where
  pub slice : List ℕ
  pub number : ℕ
  pub split : text ≡ slice ++ rest
  pub is : lexeme ≡ Token (kind.Int (pos number))
  pub int : IsBoundedInt slice rest number

nonempty : (ds : List ℕ) → 0 < length ds → ds ≡ [] → ⊥
nonempty [] some e = absurd (omega arith)
nonempty (d ∷ ds) some e = cc

hexadecimal-is : (text : List ℕ) (x : ℕ) (hs : List ℕ) (lexeme : Lexeme) (rest : List ℕ) → text ≡ 48 ∷ x ∷ hs → ((x ≡ 120) ⊎ (x ≡ 88)) → hexadecimal_at hs ≡ Some (lexeme, rest) → ReadsInt text lexeme rest
hexadecimal-is text x hs lexeme rest split letter h =
    let digits = run is_ascii_hexdigit hs in
    let facts = int_at-is 16 digits (after_run is_ascii_hexdigit hs) lexeme rest h in
    let are : AreDigits is_ascii_hexdigit digits = (nonempty digits facts.2, run-all is_ascii_hexdigit hs) in
    let whole : hs ≡ digits ++ rest = run-split is_ascii_hexdigit hs ∙ ap (λ l. digits ++ l) (sym facts.1) in
    let ends : begins_with is_xid_continue rest ≡ false = ap (begins_with is_xid_continue) facts.1 ∙ facts.4 in
    record {
      slice = 48 ∷ x ∷ digits;
      number = digits_value 16 digits;
      split = split ∙ ap (λ l. 48 ∷ x ∷ l) whole;
      is = facts.0;
      int = record {
        literal = inr (digits, elim letter [ inl low ↦ inl (ap (λ c. 48 ∷ c ∷ digits) low) | inr up ↦ inr (ap (λ c. 48 ∷ c ∷ digits) up) ], are, refl);
        small = facts.3;
        ends = ends;
      };
    }

after_x-is : (after hs : List ℕ) → after_x after ≡ Some hs → (x : ℕ) × (after ≡ x ∷ hs) × ((x ≡ 120) ⊎ (x ≡ 88))
after_x-is [] hs h = cc
after_x-is (c ∷ cs) hs h =
    let parts = cond_some ((c == 120) || (c == 88)) cs hs h in
    (c, ap (λ l. c ∷ l) parts.1, elim (or_cases (c == 120) (c == 88) parts.0) [ inl low ↦ inl (eqb-true c 120 low) | inr up ↦ inr (eqb-true c 88 up) ])

zero-is : (text cs : List ℕ) (lexeme : Lexeme) (rest : List ℕ) → text ≡ 48 ∷ cs → (o : Option (List ℕ)) → after_x cs ≡ o → option_map_or hexadecimal_at o (int_at 10 (48 ∷ []) cs) ≡ Some (lexeme, rest) → ReadsInt text lexeme rest
zero-is text cs lexeme rest split (Some hs) x h =
    let (c, is, letter) = after_x-is cs hs x in
    hexadecimal-is text c hs lexeme rest (split ∙ ap (λ l. 48 ∷ l) is) letter h
zero-is text cs lexeme rest split None x h =
    let facts = int_at-is 10 (48 ∷ []) cs lexeme rest h in
    record {
      slice = 48 ∷ [];
      number = digits_value 10 (48 ∷ []);
      split = split ∙ ap (λ l. 48 ∷ l) (sym facts.1);
      is = facts.0;
      int = record { literal = inl (inl refl, refl); small = facts.3; ends = ap (begins_with is_xid_continue) facts.1 ∙ facts.4 };
    }

literal-is : (text : List ℕ) (c : ℕ) (cs : List ℕ) (lexeme : Lexeme) (rest : List ℕ) → text ≡ c ∷ cs → is_ascii_digit c ≡ true → literal_at (c ∷ cs) ≡ Some (lexeme, rest) → ReadsInt text lexeme rest
literal-is text c cs lexeme rest split digit h =
    elim (cases_Bool (c == 48)) [
      | inl zero' ↦
          zero-is text cs lexeme rest (split ∙ ap (λ d. d ∷ cs) (eqb-true c 48 zero')) (after_x cs) refl
          (sym (ap (λ b. cond b (zero_at cs) (int_at 10 (run is_ascii_digit (c ∷ cs)) (after_run is_ascii_digit (c ∷ cs)))) zero') ∙ h)
      | inr other ↦ decimal-is text c cs lexeme rest split digit other
          (sym (ap (λ b. cond b (zero_at cs) (int_at 10 (run is_ascii_digit (c ∷ cs)) (after_run is_ascii_digit (c ∷ cs)))) other) ∙ h)
    ]
  where
    decimal-is : (text : List ℕ) (c : ℕ) (cs : List ℕ) (lexeme : Lexeme) (rest : List ℕ) → text ≡ c ∷ cs → is_ascii_digit c ≡ true → (c == 48) ≡ false → int_at 10 (run is_ascii_digit (c ∷ cs)) (after_run is_ascii_digit (c ∷ cs)) ≡ Some (lexeme, rest) → ReadsInt text lexeme rest
    decimal-is text c cs lexeme rest split digit other h =
        let digits = run is_ascii_digit (c ∷ cs) in
        let facts = int_at-is 10 digits (after_run is_ascii_digit (c ∷ cs)) lexeme rest h in
        let ran : digits ≡ c ∷ run is_ascii_digit cs = ap (λ b. cond b (c ∷ run is_ascii_digit cs) []) digit in
        record {
          slice = digits;
          number = digits_value 10 digits;
          split = split ∙ run-split is_ascii_digit (c ∷ cs) ∙ ap (λ l. digits ++ l) (sym facts.1);
          is = facts.0;
          int = record {
            literal = inl (inr (c, run is_ascii_digit cs, ran, (λ e. both_ways (c == 48) other (eq-eqb c 48 e)), run-all is_ascii_digit (c ∷ cs)), refl);
            small = facts.3;
            ends = ap (begins_with is_xid_continue) facts.1 ∙ facts.4;
          };
        }

-- two fronts of a text with the same rest have the same length
pub same-length : (text xs ys as' bs : List ℕ) → text ≡ xs ++ as' → text ≡ ys ++ bs → as' ≡ bs → length xs ≤ length ys
same-length text xs ys as' bs p q e =
    omega (arith, ap length (sym p ∙ q), length-append xs as', length-append ys bs, ap length e)

int-of : (text slice after : List ℕ) (n : ℕ) → text ≡ slice ++ after → IsIntLiteral slice n → n ≤ greatest_int → begins_with is_xid_continue after ≡ false → literal_at text ≡ Some (Token (kind.Int (pos n)), after)
int-of text slice after n split literal small ends = ap literal_at split ∙ literal_at-int slice after n (record { literal = literal; small = small; ends = ends })

pub first-same : (x y : ℕ) (xs ys : List ℕ) → x ∷ xs ≡ y ∷ ys → x ≡ y
first-same x y xs ys e = cc

-- a literal that a fraction follows is within its digits
within-digits : (text slice after rest : List ℕ) (n d : ℕ) → text ≡ slice ++ after → IsIntLiteral slice n → after_run is_ascii_digit text ≡ 46 ∷ d ∷ rest → 0 < length (run is_ascii_digit text) → length slice ≤ length (run is_ascii_digit text)
within-digits text slice after rest n d split (inl (inl is, value)) fraction some = omega (arith, ap length is)
within-digits text slice after rest n d split (inl (inr (c, cs, is, first, all), value)) fraction some = run-longest is_ascii_digit text slice after split all
within-digits text slice after rest n d split (inr (digits, inl is, are, value)) fraction some =
    let bad : 120 ∷ (digits ++ after) ≡ 46 ∷ d ∷ rest = sym (ap (after_run is_ascii_digit) (split ∙ ap (λ l. l ++ after) is)) ∙ fraction in
    absurd (omega (arith, first-same 120 46 (digits ++ after) (d ∷ rest) bad))
within-digits text slice after rest n d split (inr (digits, inr is, are, value)) fraction some =
    let bad : 88 ∷ (digits ++ after) ≡ 46 ∷ d ∷ rest = sym (ap (after_run is_ascii_digit) (split ∙ ap (λ l. l ++ after) is)) ∙ fraction in
    absurd (omega (arith, first-same 88 46 (digits ++ after) (d ∷ rest) bad))

fraction-first : (text : List ℕ) (c : ℕ) (cs rest : List ℕ) → text ≡ c ∷ cs → is_ascii_digit c ≡ true → after_fraction (after_run is_ascii_digit text) ≡ Some rest → FirstAt Digit text (Some (LeftOut, rest))
fraction-first text c cs rest begins digit found =
    let digits = run is_ascii_digit text in
    let (d, is, last) = fraction-is (after_run is_ascii_digit text) rest found in
    let ran : digits ≡ c ∷ run is_ascii_digit cs = ap (run is_ascii_digit) begins ∙ ap (λ b. cond b (c ∷ run is_ascii_digit cs) []) digit in
    let some : 0 < length digits = omega (arith, ap length ran) in
    let whole : text ≡ (digits ++ 46 ∷ d ∷ []) ++ rest = run-split is_ascii_digit text ∙ ap (λ l. digits ++ l) is ∙ sym (append_assoc digits (46 ∷ d ∷ []) rest) in
    record {
      slice = digits ++ 46 ∷ d ∷ [];
      split = whole;
      stands = inl (refl, (digits, d, refl, (nonempty digits some, run-all is_ascii_digit text), last));
      longest = λ other rest' any split at. elim at [
        | inl f ↦ same-length text other (digits ++ 46 ∷ d ∷ []) rest' rest split whole (same_Some rest' rest (sym (fraction-found text other rest' split f.1) ∙ found))
        | inr i ↦ omega (arith, within-digits text other rest' rest i.0 d split i.2 is some, length-append digits (46 ∷ d ∷ []))
      ];
    }

no-fraction : (text slice after : List ℕ) → text ≡ slice ++ after → IsFraction slice → after_fraction (after_run is_ascii_digit text) ≡ None → ⊥
no-fraction text slice after split fraction none = let bad = sym (fraction-found text slice after split fraction) ∙ none in elim' bad
  where
    elim' : ◌≡◌ {A = Option (List ℕ)} (Some after) None → ⊥
    elim' e = cc

literal-first : (text : List ℕ) (c : ℕ) (cs : List ℕ) → text ≡ c ∷ cs → is_ascii_digit c ≡ true → after_fraction (after_run is_ascii_digit text) ≡ None → (found : Option (Lexeme × List ℕ)) → literal_at text ≡ found → FirstAt Digit text found
literal-first text c cs begins digit none None read = λ slice after any split at. elim at [
  | inl f ↦ no-fraction text slice after split f.1 none
  | inr i ↦ clash (sym (int-of text slice after i.0 split i.2 i.3 i.4) ∙ read)
]
  where
    clash : {x : Lexeme × List ℕ} → Some x ≡ None → ⊥
    clash e = cc
literal-first text c cs begins digit none (Some (lexeme, rest)) read =
    let reads = literal-is text c cs lexeme rest begins digit (sym (ap literal_at begins) ∙ read) in
    record {
      slice = reads.slice;
      split = reads.split;
      stands = inr (reads.number, reads.is, reads.int.literal, reads.int.small, reads.int.ends);
      longest = λ other rest' any split at. elim at [
        | inl f ↦ absurd (no-fraction text other rest' split f.1 none)
        | inr i ↦ same-length text other reads.slice rest' rest split reads.split (ap (λ p. p.1) (same_Some (Token (kind.Int (pos i.0)), rest') (lexeme, rest) (sym (int-of text other rest' i.0 split i.2 i.3 i.4) ∙ read)))
      ];
    }

-- what a number is read as is the longest that stands there
pub number-first : (text : List ℕ) (c : ℕ) (cs : List ℕ) → text ≡ c ∷ cs → is_ascii_digit c ≡ true → FirstAt Digit text (number_at text)
number-first text c cs begins digit = go (after_fraction (after_run is_ascii_digit text)) refl
  where
    go : (o : Option (List ℕ)) → after_fraction (after_run is_ascii_digit text) ≡ o → FirstAt Digit text (option_map_or (λ rest. Some (LeftOut, rest)) o (literal_at text))
    go (Some rest) found = fraction-first text c cs rest begins digit found
    go None none = literal-first text c cs begins digit none (literal_at text) refl
