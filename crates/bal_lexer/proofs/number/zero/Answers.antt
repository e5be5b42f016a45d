use Rattle.std.proofs.Common.{◌∷◌, [], chars, ap, ◌∙◌, refl}
use Rattle.std.specs.Option.{option_map_or}
use Rattle.std.specs.List.{list_all}
use Rattle.std.specs.Char.{is_digit, is_ascii_hexdigit}
use Rattle.bal_lexer.specs.Runs.{run}
use Rattle.bal_lexer.specs.Numbers.{int_at, hexadecimal_at}
use Rattle.bal_lexer.proofs.Runs.{run-all, list_all-weaker}
use Rattle.bal_lexer.proofs.Ascii.{chars-ascii}
use Rattle.bal_lexer.proofs.IntLemmas.{is_digit-hexadecimal}
use Rattle.bal_lexer.proofs.number.zero.Goals as goal

pub int-requires-clause-digits : goal.int-requires-clause-digits
int-requires-clause-digits c =
    ap (list_all (λ d. is_digit d 16)) c.split_run.ensures.front
    ∙ list_all-weaker is_ascii_hexdigit (λ d. is_digit d 16) (run is_ascii_hexdigit (chars c.in-Some.rest.now)) is_digit-hexadecimal (run-all is_ascii_hexdigit (chars c.in-Some.rest.now))

pub int-requires-in-None-clause-digits : goal.int-requires-in-None-clause-digits
int-requires-in-None-clause-digits c = ap (list_all (λ d. is_digit d 10)) (chars-ascii (48 ∷ []) refl)

pub returns-in-None : goal.returns-in-None
returns-in-None c =
    c.int-in-None.ensures ∙ ap (λ d. int_at 10 d (chars c.args.s.now)) (chars-ascii (48 ∷ []) refl)
    ∙ ap (λ o. option_map_or hexadecimal_at o (int_at 10 (48 ∷ []) (chars c.args.s.now))) c.in-None.ensures
