use Rattle.std.proofs.Common.{sym, subst, chars}
use Rattle.bal_lexer.specs.Lexes.{AreSpans, Lexes}
use Rattle.source_files.proofs.SourceReadings.{parses}
use Rattle.source_files.proofs.reading.tree_of.Goals as goal

pub returns : goal.returns
returns c =
    let text = c.args.text.now in
    let same = sym c.as_slice.ensures.value in
    let lexed = c.in_ok-tokens.ensures in
    let parsed = c.parse_file.ensures in
    parses c.args.file text c.requires c.as_slice.result.now (subst (Lexes (chars text)) same lexed.tokens) c.parse_file.result
    (subst (AreSpans text 0) same lexed.spans) parsed.reads parsed.chosen parsed.not_deep parsed.refused parsed.exact parsed.complete
