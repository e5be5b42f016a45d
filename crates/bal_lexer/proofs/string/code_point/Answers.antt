use Rattle.std.proofs.Common.{ap, ◌∙◌, chars}
use Rattle.std.specs.List.{list_all}
use Rattle.std.specs.Char.{is_ascii_hexdigit}
use Rattle.bal_lexer.proofs.Runs.{run-all}
use Rattle.bal_lexer.proofs.string.code_point.Goals as goal

pub scalar-requires : goal.scalar-requires
scalar-requires c = ap (list_all is_ascii_hexdigit) c.split_run.ensures.front ∙ run-all is_ascii_hexdigit (chars c.in_ok-rest.rest.now)
