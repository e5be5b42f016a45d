use Rattle.check_answers.proofs.Itself.{packages-agree}
use Rattle.check_answers.proofs.laws.packages_agree.Goals as goal

pub returns : goal.returns
returns g c = packages-agree g.T.Types.passes
