use Rattle.std.proofs.Common.{◌++◌, chars, length, drop, sym, ap, ◌∙◌}
use Rattle.bal_lexer.specs.Spellings.{sign_text}
use Rattle.bal_lexer.proofs.Ascii.{chars-ascii}
use Rattle.bal_lexer.proofs.Signs.{sign_ascii}
use Rattle.bal_lexer.proofs.SignScan.{first_sign-none, first_sign-longest, first_sign-here}
use Rattle.bal_lexer.proofs.sign.sign.Goals as goal

pub returns-in_err-sign-clause-longest : goal.returns-in_err-sign-clause-longest
returns-in_err-sign-clause-longest c = λ other rest e. absurd (first_sign-none c.args.s.now c.utf8.s (sym c.first_sign.ensures ∙ c.in_err-sign.was) other rest e)

pub returns-in_err-after-clause-longest : goal.returns-in_err-after-clause-longest
returns-in_err-after-clause-longest c = λ other rest e.
    let g = c.in_ok-sign.sign in
    let here = first_sign-here c.args.s.now g (sym c.first_sign.ensures ∙ c.in_ok-sign.was) in
    absurd (c.in_err-after.ensures (chars (drop (length (sign_text g)) c.args.s.now)) (here ∙ ap (λ t. chars t ++ chars (drop (length (sign_text g)) c.args.s.now)) (sym c.sign_text.ensures)))

pub returns-clause-here : goal.returns-clause-here
returns-clause-here c =
    c.in_ok-after.ensures ∙ ap (λ l. l ++ chars c.in_ok-after.after.now) (ap chars c.sign_text.ensures ∙ chars-ascii (sign_text c.in_ok-sign.sign) (sign_ascii c.in_ok-sign.sign))

pub returns-clause-longest : goal.returns-clause-longest
returns-clause-longest c = first_sign-longest c.args.s.now c.in_ok-sign.sign c.utf8.s (sym c.first_sign.ensures ∙ c.in_ok-sign.was)
