use Rattle.std.proofs.Common.{arith}
use Rattle.needs_of_rows.proofs.Counted.{one-empty, one-long, one-single}
use Rattle.needs_of_rows.proofs.operands.one_of.Goals as goal

pub returns-in-empty : goal.returns-in-empty
returns-in-empty c = one-empty c.args.operands.now (omega arith)

pub returns-in-len1 : goal.returns-in-len1
returns-in-len1 c = one-single c.args.operands.now c.a-item.result c.in-len1.len_at_least c.in-len1.len_below c.a-item.is

pub returns-in-len2-up : goal.returns-in-len2-up
returns-in-len2-up c = one-long c.args.operands.now (omega arith)
