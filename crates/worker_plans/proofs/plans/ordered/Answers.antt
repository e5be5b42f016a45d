use Rattle.checks.proofs.Steps.{ran_out}
use Rattle.worker_pairing.specs.Faults.{ordered}
use Rattle.worker_members.specs.Held.{members_held}
use Rattle.worker_plans.proofs.Chaining.{long-found, none-found, numbering-found}
use Rattle.worker_plans.proofs.plans.ordered.Goals as goal

pub ordered_by-requires-clause-none : goal.ordered_by-requires-clause-none
ordered_by-requires-clause-none c = none-found c.deref.result.now c.args.members.now.workers.items c.in-Ok.found c.deref.ensures.value c.in-Ok.ensures.none

pub ordered_by-requires-clause-long : goal.ordered_by-requires-clause-long
ordered_by-requires-clause-long c = long-found c.deref.result.now c.args.members.now.workers.items c.in-Ok.found c.deref.ensures.value c.in-Ok.ensures.long

pub ordered_by-requires-clause-numbering : goal.ordered_by-requires-clause-numbering
ordered_by-requires-clause-numbering c = numbering-found c.deref.result.now c.args.members.now.workers.items c.in-Ok.found c.deref.ensures.value c.in-Ok.ensures.numbering

pub returns-in-Err : goal.returns-in-Err
returns-in-Err c env = ran_out (ordered (members_held c.args.members.now)) env env
