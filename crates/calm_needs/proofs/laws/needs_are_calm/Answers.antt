use Rattle.calm_needs.proofs.laws.needs_are_calm.Goals as goal
use Rattle.calm_needs.proofs.CalmLaw.{all-needs-are-calm}

pub returns : goal.returns
returns g c = all-needs-are-calm g.T.Types.passes
