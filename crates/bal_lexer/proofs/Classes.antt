-- The longest lexeme where white space, a mark, a comment, a word or a sign begins.
use Rattle.std.proofs.Common.{◌≡◌, ◌≢◌, ℕ, ◌≤◌, true, cond, not, ◌||◌, ◌==◌, nat_le, List, [], ◌∷◌, ◌++◌, length, Some, None, inl, inr, refl, sym, ap, ◌∙◌, subst, arith}
use Rattle.std.specs.List.{list_all}
use Rattle.std.proofs.lemmas.Bool.{and_from, or_cases, eqb-true, leb-true}
use Rattle.unicode_ident.specs.Ident.{is_xid_start, is_xid_continue}
use Rattle.unicode_ident.proofs.IdentLemmas.{is_xid_continue-ascii, is_xid_start-is_xid_continue}
use Rattle.bal_base.specs.declared.token.TokenKind.TheVariants as kind
use Rattle.bal_base.specs.declared.token.Sign.{Sign as SignOf}
use Rattle.bal_lexer.specs.Spellings.{sign_text}
use Rattle.bal_lexer.specs.declared.lexeme.Lexeme.{Lexeme}
use Rattle.bal_lexer.specs.declared.lexeme.Lexeme.TheVariants.{Gap, LeftOut, Token}
use Rattle.bal_lexer.specs.declared.lexeme.Start.TheVariants.{White, LeftOutMark, Hash, Word, Sign}
use Rattle.bal_lexer.specs.Lexemes.{is_white, starts_word, is_left_out_mark, begins_with}
use Rattle.bal_lexer.specs.Words.{Means}
use Rattle.bal_lexer.specs.Runs.{run, after_run}
use Rattle.bal_lexer.specs.Firsts.{in_line, AtStart, FirstAt}
use Rattle.bal_lexer.proofs.Runs.{run-split, run-all, run-longest}
use Rattle.bal_lexer.proofs.Signs.{slash_short}

pub white-first : (text : List ℕ) (c : ℕ) (cs : List ℕ) → text ≡ c ∷ cs → is_white c ≡ true → FirstAt White text (Some (Gap, cs))
white-first text c cs begins white = record {
  slice = c ∷ [];
  split = begins;
  stands = (refl, (c, refl, white));
  longest = λ other rest any split (is, (d, one, w)). omega (arith, ap length one);
}

pub mark-first : (text : List ℕ) (c : ℕ) (cs : List ℕ) → text ≡ c ∷ cs → is_left_out_mark c ≡ true → FirstAt LeftOutMark text (Some (LeftOut, cs))
mark-first text c cs begins mark = record {
  slice = c ∷ [];
  split = begins;
  stands = (refl, (c, refl, mark));
  longest = λ other rest any split (is, (d, one, w)). omega (arith, ap length one);
}

pub hash-first : (text cs : List ℕ) → text ≡ 35 ∷ cs → FirstAt Hash text (Some (Gap, after_run in_line cs))
hash-first text cs begins = record {
  slice = 35 ∷ run in_line cs;
  split = begins ∙ ap (λ l. 35 ∷ l) (run-split in_line cs);
  stands = (refl, (run in_line cs, refl, run-all in_line cs));
  longest = λ other rest any split (is, (body, one, all)).
      let both : 35 ∷ cs ≡ 35 ∷ (body ++ rest) = sym begins ∙ split ∙ ap (λ l. l ++ rest) one in
      let tails : cs ≡ body ++ rest = cc in
      omega (arith, ap length one, run-longest in_line cs body rest tails all);
}

continues-word : (c : ℕ) → starts_word c ≡ true → is_xid_continue c ≡ true
continues-word c starts =
    elim (or_cases (c == 95) (is_xid_start c) starts) [
      | inl underscore ↦ ap is_xid_continue (eqb-true c 95 underscore) ∙ is_xid_continue-ascii 95 (omega arith)
      | inr letter ↦ is_xid_start-is_xid_continue c letter
    ]

pub word-first : (text : List ℕ) (c : ℕ) (cs : List ℕ) (lexeme : Lexeme) → text ≡ c ∷ cs → starts_word c ≡ true → Means (run is_xid_continue text) lexeme → FirstAt Word text (Some (lexeme, after_run is_xid_continue text))
word-first text c cs lexeme begins starts means =
    let goes = continues-word c starts in
    let ran : run is_xid_continue text ≡ c ∷ run is_xid_continue cs = ap (run is_xid_continue) begins ∙ ap (λ b. cond b (c ∷ run is_xid_continue cs) []) goes in
    record {
      slice = run is_xid_continue text;
      split = run-split is_xid_continue text;
      stands = ((c, run is_xid_continue cs, ran, starts, run-all is_xid_continue cs), means);
      longest = λ other rest any split ((d, ds, is, first, all), means').
          run-longest is_xid_continue text other rest split (subst (λ l. list_all is_xid_continue l ≡ true) (sym is) (and_from (is_xid_continue d) (list_all is_xid_continue ds) (continues-word d first) all));
    }

slash-sign : (g : SignOf) (rest cs : List ℕ) → 47 ∷ cs ≡ sign_text g ++ rest → length (sign_text g) ≤ 2
slash-sign g rest cs e = go (sign_text g) rest cs e (slash_short g)
  where
    go : (xs rest cs : List ℕ) → 47 ∷ cs ≡ xs ++ rest → (not (begins_with (λ c. c == 47) xs) || nat_le (length xs) 2) ≡ true → length xs ≤ 2
    go [] rest cs e short = omega arith
    go (x ∷ xs) rest cs e short =
        let first : 47 ≡ x = cc in
        leb-true (length (x ∷ xs)) 2 (subst (λ d. (not (d == 47) || nat_le (length (x ∷ xs)) 2) ≡ true) (sym first) short)

pub comment-first : (text cs : List ℕ) → text ≡ 47 ∷ 47 ∷ cs → FirstAt Sign text (Some (Gap, after_run in_line cs))
comment-first text cs begins = record {
  slice = 47 ∷ 47 ∷ run in_line cs;
  split = begins ∙ ap (λ l. 47 ∷ 47 ∷ l) (run-split in_line cs);
  stands = inl (refl, (run in_line cs, refl, run-all in_line cs));
  longest = longest;
}
  where
    longest : (other rest : List ℕ) (any : Lexeme) → text ≡ other ++ rest → AtStart Sign other rest any → length other ≤ length (47 ∷ 47 ∷ run in_line cs)
    longest other rest any split (inl (is, (body, one, all))) =
        let both : 47 ∷ 47 ∷ cs ≡ 47 ∷ 47 ∷ (body ++ rest) = sym begins ∙ split ∙ ap (λ l. l ++ rest) one in
        let tails : cs ≡ body ++ rest = cc in
        omega (arith, ap length one, run-longest in_line cs body rest tails all)
    longest other rest any split (inr (g, is, one)) =
        let short = slash-sign g rest (47 ∷ cs) (sym begins ∙ split ∙ ap (λ l. l ++ rest) one) in
        omega (arith, ap length one, short)

pub sign-first : (text : List ℕ) (g : SignOf) (after : List ℕ) → ((rest : List ℕ) → text ≢ 47 ∷ 47 ∷ rest) → text ≡ sign_text g ++ after
    → ((other : SignOf) (rest : List ℕ) → text ≡ sign_text other ++ rest → length (sign_text other) ≤ length (sign_text g)) → FirstAt Sign text (Some (Token (kind.Sign g), after))
sign-first text g after no_comment here most = record {
  slice = sign_text g;
  split = here;
  stands = inr (g, refl, refl);
  longest = longest;
}
  where
    longest : (other rest : List ℕ) (any : Lexeme) → text ≡ other ++ rest → AtStart Sign other rest any → length other ≤ length (sign_text g)
    longest other rest any split (inl (is, (body, one, all))) = absurd (no_comment (body ++ rest) (split ∙ ap (λ l. l ++ rest) one))
    longest other rest any split (inr (h, is, one)) = omega (arith, ap length one, most h rest (split ∙ ap (λ l. l ++ rest) one))

pub sign-none : (text : List ℕ) → ((rest : List ℕ) → text ≢ 47 ∷ 47 ∷ rest) → ((other : SignOf) (rest : List ℕ) → text ≡ sign_text other ++ rest → ⊥) → FirstAt Sign text None
sign-none text no_comment no_sign slice after any split (inl (is, (body, one, all))) = no_comment (body ++ after) (split ∙ ap (λ l. l ++ after) one)
sign-none text no_comment no_sign slice after any split (inr (h, is, one)) = no_sign h after (split ∙ ap (λ l. l ++ after) one)
