use Rattle.std.proofs.Common.{arith}
use Rattle.needs_of_rows.proofs.Counted.{three-long, three-short, three-triple}
use Rattle.needs_of_rows.proofs.operands.three_of.Goals as goal

pub returns-in-empty : goal.returns-in-empty
returns-in-empty c = three-short c.args.operands.now (omega arith)

pub returns-in-len1 : goal.returns-in-len1
returns-in-len1 c = three-short c.args.operands.now (omega arith)

pub returns-in-len2 : goal.returns-in-len2
returns-in-len2 c = three-short c.args.operands.now (omega arith)

pub returns-in-len3 : goal.returns-in-len3
returns-in-len3 c = three-triple c.args.operands.now c.a-item.result c.b-item.result c.third-item.result c.in-len3.len_at_least c.in-len3.len_below c.a-item.is c.b-item.is c.third-item.is

pub returns-in-len4-up : goal.returns-in-len4-up
returns-in-len4-up c = three-long c.args.operands.now (omega arith)
