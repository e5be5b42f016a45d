use Rattle.output_growth.proofs.Steps.{output-grows, reached-grows}
use Rattle.output_growth.proofs.laws.output_only_grows.Goals as goal

pub returns-clause-steps : goal.returns-clause-steps
returns-clause-steps g c = output-grows g.N.Meaning.answers g.M.AnyMachine.machine

pub returns-clause-runs : goal.returns-clause-runs
returns-clause-runs g c = reached-grows g.N.Meaning.answers g.M.AnyMachine.machine
