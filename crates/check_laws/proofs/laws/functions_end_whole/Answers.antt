use Rattle.check_laws.proofs.Functions.{functions-end-whole}
use Rattle.check_laws.proofs.laws.functions_end_whole.Goals as goal

pub returns : goal.returns
returns g c = functions-end-whole g.T.Types.passes
