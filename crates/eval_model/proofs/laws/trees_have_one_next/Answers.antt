use Rattle.machine_model.proofs.Once.{steps-once}
use Rattle.machine_model.proofs.RunsOnce.{runs-once}
use Rattle.eval_model.specs.Trees.{trees}
use Rattle.eval_model.proofs.laws.trees_have_one_next.Goals as goal

pub returns-clause-steps : goal.returns-clause-steps
returns-clause-steps g c = λ atoms fillers p. steps-once g.N.Meaning.answers (trees atoms fillers p)

pub returns-clause-runs : goal.returns-clause-runs
returns-clause-runs g c = λ atoms fillers p. runs-once g.N.Meaning.answers (trees atoms fillers p)
