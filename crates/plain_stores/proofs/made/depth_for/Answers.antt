use Rattle.std.proofs.Common.{length}
use Rattle.plain_stores.specs.Changes.{kids}
use Rattle.plain_stores.proofs.Levels.{levels-empty}
use Rattle.plain_stores.proofs.made.depth_for.Goals as goal

pub returns-in-empty : goal.returns-in-empty
returns-in-empty c = levels-empty (kids c.args.facts.now) c.args.roots.now (length c.args.facts.now.atoms.now) c.in-empty.len_below
