use Rattle.op_model.proofs.PerformsOnce.{one-effect}
use Rattle.op_model.proofs.laws.operations_have_one_effect.Goals as goal

pub returns : goal.returns
returns g c = one-effect g.N.Meaning.answers
