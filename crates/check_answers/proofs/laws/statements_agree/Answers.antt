use Rattle.check_answers.proofs.EachStatement.{statements-agree}
use Rattle.check_answers.proofs.laws.statements_agree.Goals as goal

pub returns : goal.returns
returns g c = statements-agree g.T.Types.passes
