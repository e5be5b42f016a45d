use Rattle.check_answers.proofs.EachUpdate.{updates-agree}
use Rattle.check_answers.proofs.laws.updates_agree.Goals as goal

pub returns : goal.returns
returns g c = updates-agree g.T.Types.passes
