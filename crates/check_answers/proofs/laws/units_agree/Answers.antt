use Rattle.check_answers.proofs.EachUnit.{units-agree}
use Rattle.check_answers.proofs.laws.units_agree.Goals as goal

pub returns : goal.returns
returns g c = units-agree g.T.Types.passes
