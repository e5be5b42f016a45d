use Rattle.eval_model.proofs.Settled.{doing-settles}
use Rattle.eval_model.proofs.laws.trees_settle.Goals as goal

pub returns : goal.returns
returns c = doing-settles
