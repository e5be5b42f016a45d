use Rattle.code_keeping.proofs.Entering.{awaited-comes}
use Rattle.code_keeping.proofs.laws.awaited_results_come.Goals as goal

pub returns : goal.returns
returns c = awaited-comes
