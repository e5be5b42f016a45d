use Rattle.code_keeping.proofs.Itself.{goes-on-by-itself}
use Rattle.code_keeping.proofs.Unstuck.{never-stuck}
use Rattle.code_keeping.proofs.laws.goes_on_by_itself.Goals as goal

pub returns-clause-fits : goal.returns-clause-fits
returns-clause-fits c = goes-on-by-itself

pub returns-clause-comes : goal.returns-clause-comes
returns-clause-comes c = never-stuck
