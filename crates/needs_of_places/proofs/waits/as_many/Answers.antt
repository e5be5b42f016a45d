use Rattle.std.proofs.Common.{◌==◌, ◌∙◌, length, sym}
use Rattle.needs_of_rows.proofs.Finding.{found-failed, found-passed}
use Rattle.needs_of_places.proofs.waits.as_many.Goals as goal

pub returns-in-true : goal.returns-in-true
returns-in-true c = found-passed (length c.args.names.now == length c.args.fields.now) _ (sym c.are_as_many.ensures ∙ c.in-true.is)

pub returns-in-false : goal.returns-in-false
returns-in-false c = found-failed (length c.args.names.now == length c.args.fields.now) _ _ (sym c.are_as_many.ensures ∙ c.in-false.is) c.refuse.ensures
