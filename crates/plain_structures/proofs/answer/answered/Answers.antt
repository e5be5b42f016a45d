use Rattle.std.proofs.Common.{subst}
use Rattle.plain_structures.specs.Rows.{TriedStays}
use Rattle.plain_structures.proofs.answer.answered.Goals as goal

pub returns-in-Came-clause-stays : goal.returns-in-Came-clause-stays
returns-in-Came-clause-stays c = λ old w h. c.lifted.ensures.stays old w (subst (TriedStays old.world w) c.in-Came.is h)
