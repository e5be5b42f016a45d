use Rattle.std.proofs.Common.{subst}
use Rattle.std.specs.Prelude.{IfNone}
use Rattle.worker_pairing.specs.Events.{IsOrderable}
use Rattle.worker_pairing.specs.Faults.{crew_of}
use Rattle.worker_members.specs.Held.{members_held}
use Rattle.worker_plans.proofs.plans.ordered_by.Goals as goal

pub refused-requires-clause-none : goal.refused-requires-clause-none
refused-requires-clause-none c = subst (λ o. IfNone o (¬ IsOrderable (crew_of (members_held c.args.members.now)))) c.in-None.is c.requires.none

pub returns-in-None : goal.returns-in-None
returns-in-None c env = c.refused.ensures env
