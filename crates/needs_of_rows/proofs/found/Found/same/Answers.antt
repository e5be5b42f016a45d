use Rattle.code_needs.specs.Combining.{need}
use Rattle.code_needs.specs.Needs.{Below}
use Rattle.needs_of_rows.proofs.Finding.{found-then}
use Rattle.needs_of_rows.proofs.found.Found.same.Goals as goal

pub returns : goal.returns
returns c =
    found-then (need (Below c.args.s.now c.args.t.now)) (need (Below c.args.t.now c.args.s.now)) _ _ _ c.below.ensures c.below-2.ensures
