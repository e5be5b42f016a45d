use Rattle.std.proofs.Common.{◌∙◌, ap}
use Rattle.worker_members.specs.Held.{numbered_held}
use Rattle.worker_plans.specs.Sends.{as_send}
use Rattle.worker_plans.proofs.pairs.sent_on.Goals as goal

pub returns-in-Some : goal.returns-in-Some
returns-in-Some c = c.if_sender.ensures ∙ ap (as_send (numbered_held c.args.event)) c.in-Some.ensures

pub returns-in-None : goal.returns-in-None
returns-in-None c = ap (as_send (numbered_held c.args.event)) c.in-None.ensures
