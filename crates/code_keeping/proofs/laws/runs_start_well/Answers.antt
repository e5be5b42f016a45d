use Rattle.code_keeping.proofs.Beginning.{starts-well}
use Rattle.code_keeping.proofs.laws.runs_start_well.Goals as goal

pub returns : goal.returns
returns c = starts-well
