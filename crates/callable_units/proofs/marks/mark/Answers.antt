use Rattle.std.proofs.Common.{◌≤◌, Bool, List, length, subst}
use Rattle.callable_units.proofs.Marking.{unset}
use Rattle.callable_units.proofs.marks.mark.Goals as goal

pub returns-in-false : goal.returns-in-false
returns-in-false c = unset _ c.args.n (subst (λ (l : List Bool). length l ≤ c.args.n) c.as_slice.ensures.value (c.has_number.ensures.beyond c.in-false.is))
