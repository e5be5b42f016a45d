use Rattle.code_frames.proofs.Alike.{allowed-same, reaches-same, start-same, step-same}
use Rattle.code_frames.proofs.laws.machines_that_run_alike.Goals as goal

pub returns-clause-starts : goal.returns-clause-starts
returns-clause-starts g c = λ M N same words input ticks. start-same M N same words input ticks

pub returns-clause-steps : goal.returns-clause-steps
returns-clause-steps g c = λ M N same s next. step-same M N same g.N.Meaning.answers s next

pub returns-clause-states : goal.returns-clause-states
returns-clause-states g c = λ M N same words input ticks phase n order s. reaches-same M N same g.N.Meaning.answers words input ticks phase n order s

pub returns-clause-outcomes : goal.returns-clause-outcomes
returns-clause-outcomes g c = λ M N same words input order ticks n o. allowed-same M N same g.N.Meaning.answers words input order ticks n o
