use Rattle.std.proofs.Common.{false}
use Rattle.bal_base.specs.declared.token.Keyword.TheVariants.{If as IfKey}
use Rattle.bal_tree.specs.Spells.{kinds_of}
use Rattle.token_steps.specs.Tokens.{take_key}
use Rattle.parse_stmt.proofs.KnownAll.{known}
use Rattle.parse_stmt.proofs.StopWithin.{answer-if, key-there, within-braces}
use Rattle.parse_stmt.proofs.reader.StmtReader.stop_within.Goals as goal

pub returns-then-is_some : goal.returns-then-is_some
returns-then-is_some c = answer-if known c.args.room c.args.self.file c.args.tokens.now c.args.after.now c.requires.read c.requires.room c.last_else.result c.after_key.result c.after_key.ensures.end c.if-is_some.ensures c.last_else.ensures

pub returns : goal.returns
returns c =
    within-braces known c.args.room c.args.self.file c.args.tokens.now c.args.after.now c.requires.read c.requires.room c.behind_braces.result
    (key-there c.after_key.result (take_key IfKey (kinds_of c.args.tokens.now)) false c.after_key.ensures.end c.if-is_some.ensures) c.behind_braces.ensures
