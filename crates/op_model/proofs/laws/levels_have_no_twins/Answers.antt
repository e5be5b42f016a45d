use Rattle.op_model.proofs.Twins.{levels-twins}
use Rattle.op_model.proofs.laws.levels_have_no_twins.Goals as goal

pub returns : goal.returns
returns c = levels-twins
