use Rattle.std.proofs.Common.{ap, ◌∙◌}
use Rattle.std.specs.List.{list_any}
use Rattle.std.specs.Str.{bytes_eq}
use Rattle.bal_lexer.specs.Groups.{left_out_from}
use Rattle.bal_lexer.proofs.Lookups.{left_out-lookup}
use Rattle.bal_lexer.proofs.keyword.is_left_out.Goals as goal

pub returns : goal.returns
returns c =
    let word = c.args.word.now in
    c.is_left_out_from.ensures ∙ ap (λ l. list_any (λ w. bytes_eq w word) (left_out_from l)) c.first_byte.ensures ∙ left_out-lookup word
