use Rattle.check_answers.proofs.EachValue.{values-agree}
use Rattle.check_answers.proofs.laws.values_agree.Goals as goal

pub returns : goal.returns
returns g c = values-agree g.T.Types.passes
