use Rattle.code_frames.specs.Programs.{machine_of}
use Rattle.stack_code.specs.CodeMachine.{codes}
use Rattle.code_runs.proofs.Alike.{program-runs-alike}
use Rattle.code_runs.proofs.laws.programs_run_alike.Goals as goal

pub returns : goal.returns
returns g c = λ fillers code p is. program-runs-alike (codes fillers code) (machine_of p) is g.N.Meaning.answers
