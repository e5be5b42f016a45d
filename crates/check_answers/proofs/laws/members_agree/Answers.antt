use Rattle.check_answers.proofs.EachMember.{members-agree}
use Rattle.check_answers.proofs.laws.members_agree.Goals as goal

pub returns : goal.returns
returns g c = members-agree g.T.Types.passes
