use Rattle.std.proofs.Common.{◌==◌, ◌∙◌, length, sym}
use Rattle.needs_of_rows.proofs.Finding.{found-failed, found-passed}
use Rattle.needs_of_rows.proofs.found.Found.as_many.Goals as goal

pub returns-in-true : goal.returns-in-true
returns-in-true c = found-passed (length c.args.operands.now == c.args.count) _ (sym c.are_so_many.ensures ∙ c.in-true.is)

pub returns-in-false : goal.returns-in-false
returns-in-false c = found-failed (length c.args.operands.now == c.args.count) _ _ (sym c.are_so_many.ensures ∙ c.in-false.is) c.refuse.ensures
