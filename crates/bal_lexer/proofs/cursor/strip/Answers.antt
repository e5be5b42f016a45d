use Rattle.bal_lexer.proofs.Strip.{strips}
use Rattle.bal_lexer.proofs.cursor.strip.Goals as goal

pub returns : goal.returns
returns c = strips c.args.s.now c.args.prefix.now c.strip_prefix.result c.utf8.s c.utf8.prefix c.strip_prefix.ensures.cases
