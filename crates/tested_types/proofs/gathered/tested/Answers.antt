use Rattle.tested_types.proofs.Noting.{all-noted}
use Rattle.tested_types.proofs.gathered.tested.Goals as goal

pub returns-clause-once : goal.returns-clause-once
returns-clause-once c = (all-noted c.new-types.ensures.items c.in_ok-steps.ensures c.in_ok-members.ensures.notes).0

pub returns-clause-are : goal.returns-clause-are
returns-clause-are c = (all-noted c.new-types.ensures.items c.in_ok-steps.ensures c.in_ok-members.ensures.notes).1
