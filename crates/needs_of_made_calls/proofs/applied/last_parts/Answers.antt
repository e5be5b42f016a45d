use Rattle.std.proofs.Common.{arith}
use Rattle.needs_of_made_calls.proofs.Applying.{slice-last}
use Rattle.needs_of_made_calls.proofs.applied.last_parts.Goals as goal

pub returns : goal.returns
returns c = slice-last c.args.count c.args.found.now (omega arith)
