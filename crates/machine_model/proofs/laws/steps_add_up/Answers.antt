use Rattle.machine_model.proofs.Counted.{goes-steps, chain, steps-reached, steps-then}
use Rattle.machine_model.proofs.laws.steps_add_up.Goals as goal

pub returns-clause-of_frames : goal.returns-clause-of_frames
returns-clause-of_frames g c = goes-steps g.N.Meaning.answers g.M.AnyMachine.machine

pub returns-clause-chain : goal.returns-clause-chain
returns-clause-chain g c = chain g.N.Meaning.answers g.M.AnyMachine.machine

pub returns-clause-reached : goal.returns-clause-reached
returns-clause-reached g c = steps-reached g.N.Meaning.answers g.M.AnyMachine.machine

pub returns-clause-runs : goal.returns-clause-runs
returns-clause-runs g c = steps-then g.N.Meaning.answers g.M.AnyMachine.machine
