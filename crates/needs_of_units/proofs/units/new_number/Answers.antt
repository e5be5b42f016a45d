use Rattle.std.proofs.Common.{◌+◌, arith}
use Rattle.check_work.specs.Views.{state_of}
use Rattle.needs_of_units.proofs.Opening.{number-comes}
use Rattle.needs_of_units.proofs.units.new_number.Goals as goal

pub returns-clause-comes : goal.returns-clause-comes
returns-clause-comes c = λ env. number-comes (state_of env c.args.work.now) (c.args.work.now.done.next_unit + 1) (omega arith)
