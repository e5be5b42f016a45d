use Rattle.stack_code.proofs.WorkedHolds.{none-breaks}
use Rattle.stack_code.proofs.laws.well_typed_code_breaks_nowhere.Goals as goal

pub returns : goal.returns
returns c = none-breaks
