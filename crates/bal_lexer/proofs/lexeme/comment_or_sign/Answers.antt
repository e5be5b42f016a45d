use Rattle.std.proofs.Common.{◌≡◌, ◌++◌, ◌∷◌, [], Some, chars, sym, ap, ◌∙◌, refl, subst}
use Rattle.bal_lexer.specs.declared.lexeme.Lexeme.TheVariants.{Gap}
use Rattle.bal_lexer.specs.declared.lexeme.Start.TheVariants.{Sign}
use Rattle.bal_lexer.specs.Firsts.{FirstAt}
use Rattle.bal_lexer.proofs.Ascii.{chars-ascii}
use Rattle.bal_lexer.proofs.Classes.{comment-first, sign-first, sign-none}
use Rattle.bal_lexer.proofs.lexeme.comment_or_sign.Goals as goal

slashes : chars (47 ∷ 47 ∷ []) ≡ 47 ∷ 47 ∷ []
slashes = chars-ascii (47 ∷ 47 ∷ []) refl

pub returns-in-Some : goal.returns-in-Some
returns-in-Some c =
    let s = chars c.args.s.now in
    let after = chars c.in-Some.after.now in
    subst (λ a. FirstAt Sign s (Some (Gap, a))) (sym c.comment_end.ensures) (comment-first s after (c.in-Some.ensures ∙ ap (λ l. l ++ after) slashes))

pub returns-in_err-sign : goal.returns-in_err-sign
returns-in_err-sign c =
    rw c.from_residual.ensures (sign-none (chars c.args.s.now) (λ rest e. c.in_default.ensures rest (e ∙ sym (ap (λ l. l ++ rest) slashes))) c.in_err-sign.ensures.longest)

pub returns : goal.returns
returns c =
    sign-first (chars c.args.s.now) c.in_ok-sign.sign (chars c.in_ok-sign.after.now) (λ rest e. c.in_default.ensures rest (e ∙ sym (ap (λ l. l ++ rest) slashes))) c.in_ok-sign.ensures.here c.in_ok-sign.ensures.longest
