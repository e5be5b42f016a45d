use Rattle.worker_pairing.proofs.Paired.{pairs-up}
use Rattle.worker_pairing.proofs.laws.messages_pair_up.Goals as goal

pub returns : goal.returns
returns c = pairs-up
