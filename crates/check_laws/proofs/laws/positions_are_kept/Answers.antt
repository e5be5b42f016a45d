use Rattle.check_laws.proofs.Law.{positions-are-kept}
use Rattle.check_laws.proofs.laws.positions_are_kept.Goals as goal

pub returns : goal.returns
returns g c = positions-are-kept g.T.Types.passes
