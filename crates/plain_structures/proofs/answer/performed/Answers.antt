use Rattle.std.proofs.Common.{subst}
use Rattle.plain_structures.specs.Rows.{RowStays}
use Rattle.plain_structures.proofs.answer.performed.Goals as goal

pub returns-in-Some-clause-stays : goal.returns-in-Some-clause-stays
returns-in-Some-clause-stays c = λ old w h. c.lifted.ensures.stays old w (subst (RowStays old.world w) c.in-Some.is h)
