use Rattle.std.proofs.Common.{◌∙◌, ap}
use Rattle.worker_pairing.specs.Faults.{counts}
use Rattle.worker_members.specs.Held.{members_held}
use Rattle.worker_faults.proofs.pairs.counts.Goals as goal

pub returns-in-Some : goal.returns-in-Some
returns-in-Some c = c.counts_on.ensures ∙ ap (counts (members_held c.args.members.now)) c.in-Some.ensures

pub returns-in-None : goal.returns-in-None
returns-in-None c = ap (counts (members_held c.args.members.now)) c.in-None.ensures
