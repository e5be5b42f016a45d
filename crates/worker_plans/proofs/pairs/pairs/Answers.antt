use Rattle.std.proofs.Common.{arith}
use Rattle.worker_members.specs.Held.{members_held}
use Rattle.worker_plans.proofs.Pairing.{pairs-end}
use Rattle.worker_plans.proofs.pairs.pairs.Goals as goal

pub returns : goal.returns
returns c = pairs-end (members_held c.args.members.now) c.args.text.now c.loop-event.pairs.items c.loop-event.event-index (omega arith) c.loop-event.invariant c.requires
