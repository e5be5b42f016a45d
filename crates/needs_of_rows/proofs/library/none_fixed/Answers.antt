use Rattle.needs_of_rows.proofs.Finding.{found-no-first, found-some-first}
use Rattle.needs_of_rows.proofs.library.none_fixed.Goals as goal

pub returns-in-None : goal.returns-in-None
returns-in-None c = found-no-first c.args.fixed.now _ c.in-None.ensures.value

pub returns-in-Some : goal.returns-in-Some
returns-in-Some c = found-some-first c.args.fixed.now c.in-Some.field-0.now _ _ c.in-Some.ensures.value c.refuse.ensures
