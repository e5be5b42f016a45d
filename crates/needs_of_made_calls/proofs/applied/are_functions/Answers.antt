use Rattle.std.proofs.Common.{Some, refl}
use Rattle.needs_of_made_calls.proofs.Applying.{below-functions}
use Rattle.needs_of_made_calls.proofs.applied.are_functions.Goals as goal

pub returns-in-true-clause-are : goal.returns-in-true-clause-are
returns-in-true-clause-are g c =
    below-functions g.T.Types.passes c.args.t.now _ (Some c.args.at) _ _ c.is_below.result refl (c.is_yes.ensures c.in-true.is) c.is_below.ensures.comes
