use Rattle.needs_of_rows.proofs.Finding.{found-prompted, found-unprompted}
use Rattle.needs_of_rows.proofs.library.prompted.Goals as goal

pub returns-in-None : goal.returns-in-None
returns-in-None c = found-unprompted c.args.operands.now _ c.in-None.ensures.value

pub returns-in-Some : goal.returns-in-Some
returns-in-Some c = found-prompted c.args.operands.now c.in-Some.field-0.now _ _ c.in-Some.ensures.value c.alone.ensures
