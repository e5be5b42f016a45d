use Rattle.checks.proofs.Steps.{ran_out}
use Rattle.worker_pairing.specs.Faults.{ordered}
use Rattle.worker_members.specs.Held.{members_held}
use Rattle.worker_plans.proofs.Chaining.{plan-comes}
use Rattle.worker_plans.proofs.plans.with_ranks.Goals as goal

pub returns-in-Ok : goal.returns-in-Ok
returns-in-Ok c env = plan-comes (members_held c.args.members.now) c.in-Ok.plan c.args.ranks.items env c.in-Ok.ensures.0 c.in-Ok.ensures.1 c.requires.long c.requires.numbering

pub returns-in-Err : goal.returns-in-Err
returns-in-Err c env = ran_out (ordered (members_held c.args.members.now)) env env
