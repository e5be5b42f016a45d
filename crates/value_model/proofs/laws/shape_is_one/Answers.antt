use Rattle.value_model.proofs.OneShape.{one}
use Rattle.value_model.proofs.laws.shape_is_one.Goals as goal

pub returns : goal.returns
returns c = one
