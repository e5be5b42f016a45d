use Rattle.check_answers.proofs.EachBranch.{branches-agree}
use Rattle.check_answers.proofs.laws.branches_agree.Goals as goal

pub returns : goal.returns
returns g c = branches-agree g.T.Types.passes
