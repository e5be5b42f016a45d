use Rattle.std.proofs.Common.{◌∙◌, ap}
use Rattle.worker_pairing.specs.Faults.{is_left}
use Rattle.worker_members.specs.Held.{members_held, numbered_held}
use Rattle.worker_faults.proofs.pairs.is_unpaired.Goals as goal

pub returns-in-Some : goal.returns-in-Some
returns-in-Some c = c.is_left.ensures ∙ ap (is_left (members_held c.args.members.now) (numbered_held c.args.event)) c.in-Some.ensures

pub returns-in-None : goal.returns-in-None
returns-in-None c = ap (is_left (members_held c.args.members.now) (numbered_held c.args.event)) c.in-None.ensures
