use Rattle.std.proofs.Common.{rules}
use Rattle.type_diagrams.proofs.SimpleSets.{range-from_least, range-between}
use Rattle.type_diagrams.proofs.simple.range.Goals as goal

pub returns-in_ok-vec : goal.returns-in_ok-vec
returns-in_ok-vec c = let h = c.in_ok-vec in range-from_least c.args.low c.args.high _ (search rules) (search rules) (search rules) (search rules)

pub returns-in_ok-vec-3 : goal.returns-in_ok-vec-3
returns-in_ok-vec-3 c = let h = c.in_ok-vec-3 in range-between c.args.low c.args.high _ (search rules) (search rules) (search rules) (search rules) (search rules)
