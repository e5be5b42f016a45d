use Rattle.needs.proofs.Running.{runs-both, runs-nothing, runs-one, runs-out, runs-some}
use Rattle.needs.proofs.laws.runs_are_put_together.Goals as goal

pub returns-clause-nothing : goal.returns-clause-nothing
returns-clause-nothing g c = runs-nothing g.N.Needs.meets

pub returns-clause-one : goal.returns-clause-one
returns-clause-one g c = runs-one g.N.Needs.meets

pub returns-clause-both : goal.returns-clause-both
returns-clause-both g c = runs-both g.N.Needs.meets

pub returns-clause-stopped : goal.returns-clause-stopped
returns-clause-stopped g c = runs-some g.N.Needs.meets

pub returns-clause-out : goal.returns-clause-out
returns-clause-out g c = runs-out g.N.Needs.meets
