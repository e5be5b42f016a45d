use Rattle.check_answers.proofs.EachAction.{actions-agree}
use Rattle.check_answers.proofs.laws.actions_agree.Goals as goal

pub returns : goal.returns
returns g c = actions-agree g.T.Types.passes
