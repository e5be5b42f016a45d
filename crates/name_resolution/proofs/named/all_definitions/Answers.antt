use Rattle.checks.proofs.Steps.{ran_out}
use Rattle.name_resolution.specs.Faults.{all_named}
use Rattle.name_resolution.proofs.named.all_definitions.Goals as goal

pub returns-in-Err : goal.returns-in-Err
returns-in-Err c env = ran_out (all_named c.args.outlines.now c.args.home) env env
