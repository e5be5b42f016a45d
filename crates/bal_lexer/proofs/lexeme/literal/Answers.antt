use Rattle.std.proofs.Common.{chars}
use Rattle.bal_lexer.proofs.StringFirst.{string-none, string-first}
use Rattle.bal_lexer.proofs.lexeme.literal.Goals as goal

pub returns-in-None : goal.returns-in-None
returns-in-None c = string-none (chars c.args.s.now) (rw c.in-None.is at c.in_ok-string.ensures)

pub returns-in-Some : goal.returns-in-Some
returns-in-Some c = string-first (chars c.args.s.now) c.in-Some.text (chars c.in-Some.after.now) (rw c.in-Some.is at c.in_ok-string.ensures)
