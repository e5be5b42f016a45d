use Rattle.std.proofs.Common.{arith}
use Rattle.needs_of_rows.proofs.Counted.{two-double, two-long, two-short}
use Rattle.needs_of_rows.proofs.operands.two_of.Goals as goal

pub returns-in-empty : goal.returns-in-empty
returns-in-empty c = two-short c.args.operands.now (omega arith)

pub returns-in-len1 : goal.returns-in-len1
returns-in-len1 c = two-short c.args.operands.now (omega arith)

pub returns-in-len2 : goal.returns-in-len2
returns-in-len2 c = two-double c.args.operands.now c.a-item.result c.b-item.result c.in-len2.len_at_least c.in-len2.len_below c.a-item.is c.b-item.is

pub returns-in-len3-up : goal.returns-in-len3-up
returns-in-len3-up c = two-long c.args.operands.now (omega arith)
