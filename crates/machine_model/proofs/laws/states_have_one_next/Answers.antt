use Rattle.machine_model.proofs.Once.{steps-once}
use Rattle.machine_model.proofs.RunsOnce.{runs-once}
use Rattle.machine_model.proofs.laws.states_have_one_next.Goals as goal

pub returns-clause-steps : goal.returns-clause-steps
returns-clause-steps g c = steps-once g.N.Meaning.answers g.M.AnyMachine.machine

pub returns-clause-runs : goal.returns-clause-runs
returns-clause-runs g c = runs-once g.N.Meaning.answers g.M.AnyMachine.machine
