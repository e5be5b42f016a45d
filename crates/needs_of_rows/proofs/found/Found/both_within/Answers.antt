use Rattle.code_needs.specs.RowNeeds.{within}
use Rattle.needs_of_rows.proofs.Finding.{found-then}
use Rattle.needs_of_rows.proofs.found.Found.both_within.Goals as goal

pub returns : goal.returns
returns c =
    found-then (within c.args.a.now c.args.first) (within c.args.b.now c.args.second) _ _ _ c.within.ensures c.within-2.ensures
