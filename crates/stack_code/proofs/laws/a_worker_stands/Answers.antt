use Rattle.stack_code.proofs.WorkedHolds.{worker-stands}
use Rattle.stack_code.proofs.WorkedWhole.{worked-is-well-typed}
use Rattle.stack_code.proofs.laws.a_worker_stands.Goals as goal

pub returns-clause-whole : goal.returns-clause-whole
returns-clause-whole c = worked-is-well-typed

pub returns-clause-entry : goal.returns-clause-entry
returns-clause-entry c = worker-stands
