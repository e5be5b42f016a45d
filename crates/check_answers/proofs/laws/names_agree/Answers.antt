use Rattle.check_answers.proofs.EachName.{names-agree}
use Rattle.check_answers.proofs.laws.names_agree.Goals as goal

pub returns : goal.returns
returns g c = names-agree g.T.Types.passes
