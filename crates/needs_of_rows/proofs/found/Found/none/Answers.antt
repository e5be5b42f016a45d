use Rattle.needs_of_rows.proofs.Finding.{found-no-first, found-some-first}
use Rattle.needs_of_rows.proofs.found.Found.none.Goals as goal

pub returns-in-None : goal.returns-in-None
returns-in-None c = found-no-first c.args.operands.now _ c.in-None.ensures.value

pub returns-in-Some : goal.returns-in-Some
returns-in-Some c = found-some-first c.args.operands.now c.in-Some.field-0.now _ _ c.in-Some.ensures.value c.refuse.ensures
