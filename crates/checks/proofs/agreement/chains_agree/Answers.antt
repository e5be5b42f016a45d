use Rattle.checks.proofs.Alike.{▷-alike}
use Rattle.checks.proofs.agreement.chains_agree.Goals as goal

pub returns : goal.returns
returns g c = ▷-alike g.C.Chains.correspond g.C.Chains.correspond_ends g.C.Chains.left g.C.Chains.right g.C.Chains.behind_left g.C.Chains.behind_right
