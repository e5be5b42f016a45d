use Rattle.check_answers.proofs.EachConstructor.{constructors-agree}
use Rattle.check_answers.proofs.laws.constructors_agree.Goals as goal

pub returns : goal.returns
returns g c = constructors-agree g.T.Types.passes
