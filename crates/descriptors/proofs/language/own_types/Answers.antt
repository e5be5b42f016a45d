use Rattle.checks.proofs.Steps.{ran_out}
use Rattle.descriptors.proofs.language.own_types.Goals as goal

pub returns-in-Err-clause-comes : goal.returns-in-Err-clause-comes
returns-in-Err-clause-comes g c = ran_out _ _ _
