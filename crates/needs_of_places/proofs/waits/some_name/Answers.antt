use Rattle.needs_of_rows.proofs.Finding.{found-as, found-nothing}
use Rattle.needs_of_places.proofs.Names.{name-there, no-name-there}
use Rattle.std.proofs.Common.{◌∙◌, sym}
use Rattle.needs_of_places.proofs.waits.some_name.Goals as goal

pub returns-in-true : goal.returns-in-true
returns-in-true c = found-as _ _ _ _ (no-name-there c.args.names.now (sym c.are_none.ensures ∙ c.in-true.is)) c.refuse.ensures

pub returns-in-false : goal.returns-in-false
returns-in-false c = found-as _ _ _ _ (name-there c.args.names.now (sym c.are_none.ensures ∙ c.in-false.is)) (found-nothing _)
