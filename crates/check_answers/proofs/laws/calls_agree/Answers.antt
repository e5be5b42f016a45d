use Rattle.check_answers.proofs.EachCall.{calls-agree}
use Rattle.check_answers.proofs.laws.calls_agree.Goals as goal

pub returns : goal.returns
returns g c = calls-agree g.T.Types.passes
