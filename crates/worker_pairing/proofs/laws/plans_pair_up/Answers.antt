use Rattle.worker_pairing.proofs.Plans.{plans-pair-up}
use Rattle.worker_pairing.proofs.laws.plans_pair_up.Goals as goal

pub returns : goal.returns
returns g c = plans-pair-up g.T.Types.passes
