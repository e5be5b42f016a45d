use Rattle.check_answers.proofs.EachNeed.{all-lines-agree}
use Rattle.check_answers.proofs.laws.all_lines_agree.Goals as goal

pub returns : goal.returns
returns g c = all-lines-agree g.T.Types.passes
