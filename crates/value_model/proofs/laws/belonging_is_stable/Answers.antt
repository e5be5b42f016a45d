use Rattle.value_model.proofs.Stability.{stable}
use Rattle.value_model.proofs.laws.belonging_is_stable.Goals as goal

pub returns : goal.returns
returns c = stable
