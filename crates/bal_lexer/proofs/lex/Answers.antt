use Rattle.std.proofs.Common.{◌≡◌, ◌+◌, ◌-◌, ◌++◌, ◌∷◌, [], IsUtf8, chars, length, sym, ap, ◌∙◌, subst, rules, arith}
use Rattle.bal_base.specs.declared.fault.FaultCode.TheVariants as code
use Rattle.bal_base.specs.declared.token.Token.{Token as TokenOf}
use Rattle.bal_lexer.specs.declared.lexeme.Lexeme.TheVariants.{Gap, Token}
use Rattle.bal_lexer.specs.Lexes.{byte_len, Begins, token_at, Refuses, left_out, bad_token}
use Rattle.bal_lexer.proofs.Readings.{HasLexed, has_lexed-none, has_lexed-gap, has_lexed-token, has_lexed-all, step, found-some, found-none, chars-some, chars-none, answer-right, answer-only, lexes-same, lexes-no_refusal}
use Rattle.bal_lexer.proofs.Spans.{spans, refusal-place, refusal-codes}
use Rattle.bal_lexer.proofs.Total.{reading}
use Rattle.bal_lexer.proofs.lex.Goals as goal
use Rattle.bal_lexer.proofs.lex.Goals.{After-refusal, After-refusal-in-LeftOut}

pub loop-rest-init : goal.loop-rest-init
loop-rest-init c =
    let text = chars c.args.text.now in
    let none : length c.args.text.now - length c.args.text.now ≡ 0 = omega arith in
    record {
      text = c.utf8.text;
      within = omega arith;
      lexed = subst (λ l. HasLexed text l (length c.args.text.now - length c.args.text.now) text) (sym c.new-tokens.ensures.items) (subst (λ n. HasLexed text [] n text) (sym none) (has_lexed-none text));
    }

-- nothing stands at the place
no_token : (c : After-refusal) → Refuses (chars c.args.text.now) code.BadToken c.offset-at.result
no_token c =
    let rest = chars c.loop-rest.rest.now in
    subst (Refuses (chars c.args.text.now) code.BadToken) (sym c.offset-at.ensures)
    (c.loop-rest.invariant.lexed.refuses code.BadToken _ (bad_token _ rest (chars-some c.loop-rest.rest.now c.loop-rest.invariant.text (sym c.is_empty.ensures ∙ c.loop-rest-test.true)) (found-none rest c.in-Ok-None.field-0 c.in-Ok-None.field-0-is c.in-Ok-None.ensures)))

pub returns-in-Ok-None-clause-refused : goal.returns-in-Ok-None-clause-refused
returns-in-Ok-None-clause-refused c =
    answer-right (chars c.args.text.now) c.args.file code.BadToken c.offset-at.result c.refusal.result (no_token (goal.at.returns-in-Ok-None-clause-refused c).After-refusal) c.refusal.ensures

pub returns-in-Ok-None-clause-only_tokens : goal.returns-in-Ok-None-clause-only_tokens
returns-in-Ok-None-clause-only_tokens c = λ ts lexes. (tt, lexes-no_refusal lexes (no_token (goal.at.returns-in-Ok-None-clause-only_tokens c).After-refusal))

pub returns-in-Ok-None-clause-only_refusal : goal.returns-in-Ok-None-clause-only_refusal
returns-in-Ok-None-clause-only_refusal c =
    λ d place other. (tt, answer-only (chars c.args.text.now) c.args.file code.BadToken c.offset-at.result c.refusal.result (no_token (goal.at.returns-in-Ok-None-clause-only_refusal c).After-refusal) c.refusal.ensures d place other)

-- a left-out form stands there
form_left_out : (c : After-refusal-in-LeftOut) → Refuses (chars c.args.text.now) code.LeftOut c.offset-at.result
form_left_out c =
    let rest = chars c.loop-rest.rest.now in
    let after = chars c.in-Ok-Some.found.1.now in
    let b = found-some (chars c.loop-rest.rest.now) c.in-Ok-Some.field-0 c.in-Ok-Some.found c.in-Ok-Some.field-0-is c.in-Ok-Some.ensures in
    subst (Refuses (chars c.args.text.now) code.LeftOut) (sym c.offset-at.ensures)
    (c.loop-rest.invariant.lexed.refuses code.LeftOut _ (left_out _ rest b.0 after (subst (Begins rest b.0 after) c.in-LeftOut.is b.1)))

pub returns-in-LeftOut-clause-refused : goal.returns-in-LeftOut-clause-refused
returns-in-LeftOut-clause-refused c =
    answer-right (chars c.args.text.now) c.args.file code.LeftOut c.offset-at.result c.refusal-in-LeftOut.result (form_left_out (goal.at.returns-in-LeftOut-clause-refused c).After-refusal-in-LeftOut) c.refusal-in-LeftOut.ensures

pub returns-in-LeftOut-clause-only_tokens : goal.returns-in-LeftOut-clause-only_tokens
returns-in-LeftOut-clause-only_tokens c = λ ts lexes. (tt, lexes-no_refusal lexes (form_left_out (goal.at.returns-in-LeftOut-clause-only_tokens c).After-refusal-in-LeftOut))

pub returns-in-LeftOut-clause-only_refusal : goal.returns-in-LeftOut-clause-only_refusal
returns-in-LeftOut-clause-only_refusal c =
    λ d place other. (tt, answer-only (chars c.args.text.now) c.args.file code.LeftOut c.offset-at.result c.refusal-in-LeftOut.result (form_left_out (goal.at.returns-in-LeftOut-clause-only_refusal c).After-refusal-in-LeftOut) c.refusal-in-LeftOut.ensures d place other)

pub loop-rest-smaller-in-Gap : goal.loop-rest-smaller-in-Gap
loop-rest-smaller-in-Gap c =
    let b = found-some (chars c.loop-rest.rest.now) c.in-Ok-Some.field-0 c.in-Ok-Some.found c.in-Ok-Some.field-0-is c.in-Ok-Some.ensures in
    let back : IsUtf8 c.in-Ok-Some.found.1.now = search rules in
    (step c.args.text.now c.loop-rest.rest.now c.in-Ok-Some.found.1.now b.0 c.in-Ok-Some.found.0 c.loop-rest.invariant.text back c.loop-rest.invariant.within b.1).0

pub loop-rest-preserved-in-Gap : goal.loop-rest-preserved-in-Gap
loop-rest-preserved-in-Gap c =
    let b = found-some (chars c.loop-rest.rest.now) c.in-Ok-Some.field-0 c.in-Ok-Some.found c.in-Ok-Some.field-0-is c.in-Ok-Some.ensures in
    let text = c.args.text.now in
    let s = c.loop-rest.rest.now in
    let after = c.in-Ok-Some.found.1.now in
    let slice = b.0 in
    let back : IsUtf8 after = search rules in
    let moved = step text s after slice c.in-Ok-Some.found.0 c.loop-rest.invariant.text back c.loop-rest.invariant.within b.1 in
    let gap : Begins (chars s) slice (chars after) Gap = subst (Begins (chars s) slice (chars after)) c.in-Gap.is b.1 in
    record {
      text = back;
      within = omega (arith, moved.0, c.loop-rest.invariant.within);
      lexed = subst (λ n. HasLexed (chars text) c.loop-rest.tokens.items n (chars after)) moved.1
          (has_lexed-gap (chars text) c.loop-rest.tokens.items (length text - length s) (chars s) slice (chars after) c.loop-rest.invariant.lexed gap);
    }

pub offset-end-requires-clause-within : goal.offset-end-requires-clause-within
offset-end-requires-clause-within c =
    let b = found-some (chars c.loop-rest.rest.now) c.in-Ok-Some.field-0 c.in-Ok-Some.found c.in-Ok-Some.field-0-is c.in-Ok-Some.ensures in
    let back : IsUtf8 c.in-Ok-Some.found.1.now = search rules in
    let moved = step c.args.text.now c.loop-rest.rest.now c.in-Ok-Some.found.1.now b.0 c.in-Ok-Some.found.0 c.loop-rest.invariant.text back c.loop-rest.invariant.within b.1 in
    omega (arith, moved.0, c.loop-rest.invariant.within)

pub loop-rest-smaller : goal.loop-rest-smaller
loop-rest-smaller c =
    let b = found-some (chars c.loop-rest.rest.now) c.in-Ok-Some.field-0 c.in-Ok-Some.found c.in-Ok-Some.field-0-is c.in-Ok-Some.ensures in
    let back : IsUtf8 c.in-Ok-Some.found.1.now = search rules in
    (step c.args.text.now c.loop-rest.rest.now c.in-Ok-Some.found.1.now b.0 c.in-Ok-Some.found.0 c.loop-rest.invariant.text back c.loop-rest.invariant.within b.1).0

pub loop-rest-preserved : goal.loop-rest-preserved
loop-rest-preserved c =
    let b = found-some (chars c.loop-rest.rest.now) c.in-Ok-Some.field-0 c.in-Ok-Some.found c.in-Ok-Some.field-0-is c.in-Ok-Some.ensures in
    let text = c.args.text.now in
    let s = c.loop-rest.rest.now in
    let after = c.in-Ok-Some.found.1.now in
    let slice = b.0 in
    let kind = c.in-Token.kind in
    let back : IsUtf8 after = search rules in
    let moved = step text s after slice c.in-Ok-Some.found.0 c.loop-rest.invariant.text back c.loop-rest.invariant.within b.1 in
    let token : Begins (chars s) slice (chars after) (Token kind) = subst (Begins (chars s) slice (chars after)) c.in-Token.is b.1 in
    let end : c.offset-end.result ≡ (length text - length s) + byte_len slice = c.offset-end.ensures ∙ sym moved.1 in
    let pushed : record { kind = kind; at = c.offset-at.result; end = c.offset-end.result } ≡ token_at (length text - length s) slice kind = λ i. record { kind = kind; at = c.offset-at.ensures i; end = end i } in
    let items : c.push.new.self.items ≡ c.loop-rest.tokens.items ++ token_at (length text - length s) slice kind ∷ [] =
    c.in_ok-push-in-Token.ensures.items ∙ ap (λ (t : TokenOf). c.loop-rest.tokens.items ++ t ∷ []) pushed in
    record {
      text = back;
      within = omega (arith, moved.0, c.loop-rest.invariant.within);
      lexed = subst (λ l. HasLexed (chars text) l (length text - length after) (chars after)) (sym items)
          (subst (λ n. HasLexed (chars text) (c.loop-rest.tokens.items ++ token_at (length text - length s) slice kind ∷ []) n (chars after)) moved.1
          (has_lexed-token (chars text) c.loop-rest.tokens.items (length text - length s) (chars s) slice (chars after) kind c.loop-rest.invariant.lexed token));
    }

pub returns-clause-tokens : goal.returns-clause-tokens
returns-clause-tokens c =
    has_lexed-all (chars c.args.text.now) c.loop-rest.tokens.items _
    (subst (HasLexed (chars c.args.text.now) c.loop-rest.tokens.items (length c.args.text.now - length c.loop-rest.rest.now)) (chars-none c.loop-rest.rest.now (sym c.is_empty.ensures ∙ c.loop-rest-test.false)) c.loop-rest.invariant.lexed)

pub returns-clause-only_tokens : goal.returns-clause-only_tokens
returns-clause-only_tokens c = λ ts lexes. (lexes-same (returns-clause-tokens c) lexes, tt)

pub returns-clause-only_refusal : goal.returns-clause-only_refusal
returns-clause-only_refusal c = λ d at refuses. (lexes-no_refusal (returns-clause-tokens c) refuses, tt)

pub returns-in-Ok-None-clause-codes : goal.returns-in-Ok-None-clause-codes
returns-in-Ok-None-clause-codes c = refusal-codes (chars c.args.text.now) c.args.file c.refusal.result (returns-in-Ok-None-clause-refused c)

pub returns-in-Ok-None-clause-place : goal.returns-in-Ok-None-clause-place
returns-in-Ok-None-clause-place c = refusal-place c.args.text.now c.args.file c.refusal.result c.utf8.text (returns-in-Ok-None-clause-refused c)

pub returns-in-LeftOut-clause-codes : goal.returns-in-LeftOut-clause-codes
returns-in-LeftOut-clause-codes c = refusal-codes (chars c.args.text.now) c.args.file c.refusal-in-LeftOut.result (returns-in-LeftOut-clause-refused c)

pub returns-in-LeftOut-clause-place : goal.returns-in-LeftOut-clause-place
returns-in-LeftOut-clause-place c = refusal-place c.args.text.now c.args.file c.refusal-in-LeftOut.result c.utf8.text (returns-in-LeftOut-clause-refused c)

pub returns-clause-spans : goal.returns-clause-spans
returns-clause-spans c = spans c.args.text.now c.loop-rest.tokens.items c.utf8.text (returns-clause-tokens c)

pub returns-in-Err-clause-reading : goal.returns-in-Err-clause-reading
returns-in-Err-clause-reading c = reading (chars c.args.text.now)

pub returns-in-Ok-None-clause-reading : goal.returns-in-Ok-None-clause-reading
returns-in-Ok-None-clause-reading c = reading (chars c.args.text.now)

pub returns-in-LeftOut-clause-reading : goal.returns-in-LeftOut-clause-reading
returns-in-LeftOut-clause-reading c = reading (chars c.args.text.now)

pub returns-in_err-push-in-Token-clause-reading : goal.returns-in_err-push-in-Token-clause-reading
returns-in_err-push-in-Token-clause-reading c = reading (chars c.args.text.now)

pub returns-clause-reading : goal.returns-clause-reading
returns-clause-reading c = reading (chars c.args.text.now)
