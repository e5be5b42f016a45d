use Rattle.check_answers.proofs.Lines.{lines-agree}
use Rattle.check_answers.proofs.laws.lines_agree.Goals as goal

pub returns : goal.returns
returns g c = lines-agree g.T.Types.passes
