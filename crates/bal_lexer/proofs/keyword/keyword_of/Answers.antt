use Rattle.std.proofs.Common.{ap, find, ◌∙◌}
use Rattle.std.specs.Str.{bytes_eq}
use Rattle.bal_lexer.specs.Spellings.{keyword_text}
use Rattle.bal_lexer.specs.Groups.{keywords_from}
use Rattle.bal_lexer.proofs.Lookups.{keyword-lookup}
use Rattle.bal_lexer.proofs.keyword.keyword_of.Goals as goal

pub returns : goal.returns
returns c =
    let word = c.args.word.now in
    c.keyword_from.ensures ∙ ap (λ l. find (λ k. bytes_eq (keyword_text k) word) (keywords_from l)) c.first_byte.ensures ∙ keyword-lookup word
