use Rattle.std.proofs.Common.{◌∙◌, length, nat_le, sym}
use Rattle.needs_of_rows.proofs.Finding.{found-failed, found-passed}
use Rattle.needs_of_rows.proofs.structures.at_most.Goals as goal

pub returns-in-true : goal.returns-in-true
returns-in-true c = found-passed (nat_le (length c.args.fixed.now) c.args.count) _ (sym c.are_at_most.ensures ∙ c.in-true.is)

pub returns-in-false : goal.returns-in-false
returns-in-false c = found-failed (nat_le (length c.args.fixed.now) c.args.count) _ _ (sym c.are_at_most.ensures ∙ c.in-false.is) c.refuse.ensures
