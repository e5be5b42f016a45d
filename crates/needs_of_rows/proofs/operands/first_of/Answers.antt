use Rattle.std.proofs.Common.{arith}
use Rattle.needs_of_rows.proofs.Counted.{first-empty, first-more}
use Rattle.needs_of_rows.proofs.operands.first_of.Goals as goal

pub returns-in-empty : goal.returns-in-empty
returns-in-empty c = first-empty c.args.operands.now (omega arith)

pub returns-in-len1-up : goal.returns-in-len1-up
returns-in-len1-up c = first-more c.args.operands.now c.first-item.result c.in-len1-up.len_at_least c.first-item.is
