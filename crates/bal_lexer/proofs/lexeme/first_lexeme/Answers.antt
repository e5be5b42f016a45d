use Rattle.std.proofs.Common.{◌≡◌, ◌∷◌, Some, chars, sym, ap, ◌∙◌, subst}
use Rattle.std.specs.Prelude.{option_map}
use Rattle.bal_lexer.specs.declared.lexeme.Lexeme.TheVariants.{Gap, LeftOut}
use Rattle.bal_lexer.specs.declared.lexeme.Start.TheVariants.{White, LeftOutMark, Digit, Quote, Hash, Word, Sign}
use Rattle.bal_lexer.specs.Firsts.{First, FirstAt}
use Rattle.bal_lexer.specs.Numbers.{number_at}
use Rattle.bal_lexer.proofs.Heads.{first-from, tells}
use Rattle.bal_lexer.proofs.Classes.{white-first, mark-first, hash-first, word-first}
use Rattle.bal_lexer.proofs.NumberFirst.{number-first}
use Rattle.bal_lexer.proofs.lexeme.first_lexeme.Goals as goal

pub returns-in-White : goal.returns-in-White
returns-in-White c =
    let text = chars c.args.s.now in
    let after = chars c.in-Some.after.now in
    first-from White text c.in-Some.c after (Some (Gap, after)) c.in-Some.ensures.chars (sym c.in-White.ensures)
    (white-first text c.in-Some.c after c.in-Some.ensures.chars (tells White c.in-Some.c (sym c.in-White.ensures)))

pub returns-in-LeftOutMark : goal.returns-in-LeftOutMark
returns-in-LeftOutMark c =
    let text = chars c.args.s.now in
    let after = chars c.in-Some.after.now in
    first-from LeftOutMark text c.in-Some.c after (Some (LeftOut, after)) c.in-Some.ensures.chars (sym c.in-LeftOutMark.ensures)
    (mark-first text c.in-Some.c after c.in-Some.ensures.chars (tells LeftOutMark c.in-Some.c (sym c.in-LeftOutMark.ensures)))

pub returns-in-Digit : goal.returns-in-Digit
returns-in-Digit c =
    let text = chars c.args.s.now in
    let after = chars c.in-Some.after.now in
    subst (First text) (sym c.number.ensures)
    (first-from Digit text c.in-Some.c after (number_at text) c.in-Some.ensures.chars (sym c.in-Digit.ensures)
    (number-first text c.in-Some.c after c.in-Some.ensures.chars (tells Digit c.in-Some.c (sym c.in-Digit.ensures))))

pub returns-in_ok-literal-in-Quote : goal.returns-in_ok-literal-in-Quote
returns-in_ok-literal-in-Quote c =
    let text = chars c.args.s.now in
    let after = chars c.in-Some.after.now in
    let quote : text ≡ 34 ∷ after = c.in-Some.ensures.chars ∙ ap (λ d. d ∷ after) (tells Quote c.in-Some.c (sym c.in-Quote.ensures)) in
    first-from Quote text c.in-Some.c after _ c.in-Some.ensures.chars (sym c.in-Quote.ensures)
    (subst (λ t. FirstAt Quote t (option_map (λ x. (x.0, chars x.1.now)) c.in_ok-literal-in-Quote.field-0)) (sym quote) c.in_ok-literal-in-Quote.ensures)

pub returns-in-Hash : goal.returns-in-Hash
returns-in-Hash c =
    let text = chars c.args.s.now in
    let after = chars c.in-Some.after.now in
    let hash : text ≡ 35 ∷ after = c.in-Some.ensures.chars ∙ ap (λ d. d ∷ after) (tells Hash c.in-Some.c (sym c.in-Hash.ensures)) in
    first-from Hash text c.in-Some.c after (Some (Gap, chars c.comment_end.result.now)) c.in-Some.ensures.chars (sym c.in-Hash.ensures)
    (subst (λ l. FirstAt Hash text (Some (Gap, l))) (sym c.comment_end.ensures) (hash-first text after hash))

pub returns-in_ok-word-in-Word : goal.returns-in_ok-word-in-Word
returns-in_ok-word-in-Word c =
    let text = chars c.args.s.now in
    let after = chars c.in-Some.after.now in
    let lexeme = c.in_ok-word-in-Word.field-0.0 in
    first-from Word text c.in-Some.c after (Some (lexeme, chars c.in_ok-word-in-Word.field-0.1.now)) c.in-Some.ensures.chars (sym c.in-Word.ensures)
    (subst (λ l. FirstAt Word text (Some (lexeme, l))) (sym c.in_ok-word-in-Word.ensures.after)
    (word-first text c.in-Some.c after lexeme c.in-Some.ensures.chars (tells Word c.in-Some.c (sym c.in-Word.ensures)) c.in_ok-word-in-Word.ensures.means))

pub returns-in-Sign : goal.returns-in-Sign
returns-in-Sign c =
    first-from Sign (chars c.args.s.now) c.in-Some.c (chars c.in-Some.after.now) _ c.in-Some.ensures.chars (sym c.in-Sign.ensures) c.comment_or_sign.ensures
