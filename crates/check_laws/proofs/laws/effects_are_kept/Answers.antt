use Rattle.check_laws.proofs.Law.{effects-are-kept}
use Rattle.check_laws.proofs.laws.effects_are_kept.Goals as goal

pub returns : goal.returns
returns g c = effects-are-kept g.T.Types.passes
