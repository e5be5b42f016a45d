use Rattle.machine_model.proofs.Once.{steps-once}
use Rattle.machine_model.proofs.RunsOnce.{runs-once}
use Rattle.stack_code.specs.CodeMachine.{codes}
use Rattle.stack_code.proofs.laws.code_has_one_next_state.Goals as goal

pub returns-clause-steps : goal.returns-clause-steps
returns-clause-steps g c = λ fillers code. steps-once g.N.Meaning.answers (codes fillers code)

pub returns-clause-runs : goal.returns-clause-runs
returns-clause-runs g c = λ fillers code. runs-once g.N.Meaning.answers (codes fillers code)
