use Rattle.lower_model.proofs.Allowed.{same-is-allowed}
use Rattle.lower_model.proofs.Whole.{code-does-the-same, frames-follow}
use Rattle.lower_model.proofs.laws.lowered_code_does_the_same.Goals as goal

pub returns-clause-outcomes : goal.returns-clause-outcomes
returns-clause-outcomes g c = code-does-the-same g.N.Meaning.answers

pub returns-clause-allowed : goal.returns-clause-allowed
returns-clause-allowed g c = same-is-allowed g.N.Meaning.answers

pub returns-clause-frames : goal.returns-clause-frames
returns-clause-frames g c = λ atoms fillers p code lowered. frames-follow g.N.Meaning.answers atoms fillers p code lowered
