use Rattle.checks.proofs.Steps.{ran_out}
use Rattle.name_resolution.specs.Faults.{all_named}
use Rattle.name_resolution.specs.Outlines.{outlines_of}
use Rattle.name_resolution.proofs.check_names.Goals as goal

pub returns-in-Err : goal.returns-in-Err
returns-in-Err c env = ran_out (all_named (outlines_of c.args.package.now) c.args.package.now.main) env env
