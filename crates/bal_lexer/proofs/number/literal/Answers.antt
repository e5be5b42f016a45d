use Rattle.std.proofs.Common.{chars, ap, ◌∙◌}
use Rattle.std.specs.List.{list_all}
use Rattle.std.specs.Char.{is_digit, is_ascii_digit}
use Rattle.bal_lexer.specs.Runs.{run}
use Rattle.bal_lexer.proofs.Runs.{run-all, list_all-weaker}
use Rattle.bal_lexer.proofs.IntLemmas.{is_digit-decimal}
use Rattle.bal_lexer.proofs.number.literal.Goals as goal

pub int-requires-clause-digits : goal.int-requires-clause-digits
int-requires-clause-digits c =
    ap (list_all (λ d. is_digit d 10)) c.requires.digits
    ∙ list_all-weaker is_ascii_digit (λ d. is_digit d 10) (run is_ascii_digit (chars c.args.s.now)) is_digit-decimal (run-all is_ascii_digit (chars c.args.s.now))
