use Rattle.check_answers.proofs.EachMatch.{matches-agree}
use Rattle.check_answers.proofs.laws.matches_agree.Goals as goal

pub returns : goal.returns
returns g c = matches-agree g.T.Types.passes
