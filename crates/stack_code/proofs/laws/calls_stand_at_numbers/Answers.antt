use Rattle.stack_code.proofs.Numbers.{stand-at-numbers}
use Rattle.stack_code.proofs.laws.calls_stand_at_numbers.Goals as goal

pub returns : goal.returns
returns c = stand-at-numbers
