use Rattle.std.proofs.Common.{ap}
use Rattle.needs_of_units.proofs.endings.sem.Goals as goal

pub returns : goal.returns
returns c = ap (λ t. t.sem) c.deref.ensures
