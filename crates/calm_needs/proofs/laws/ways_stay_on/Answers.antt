use Rattle.calm_needs.proofs.laws.ways_stay_on.Goals as goal
use Rattle.calm_needs.proofs.Staying.{all-ways-stay-on}

pub returns : goal.returns
returns g c = all-ways-stay-on g.T.Types.passes
