use Rattle.std.proofs.Common.{◌∙◌, sym}
use Rattle.worker_members.specs.Held.{members_held, numbered_held}
use Rattle.worker_faults.specs.Routes.{route_held}
use Rattle.worker_faults.proofs.Counted.{side-received, side-sent}
use Rattle.worker_faults.proofs.counting.other_side.Goals as goal

pub returns-then-is_sender : goal.returns-then-is_sender
returns-then-is_sender c =
    side-received (members_held c.args.members.now) (numbered_held c.args.event) (route_held c.args.route) c.received_in.result (sym c.is_sender.ensures ∙ c.if-is_sender.true) c.received_in.ensures

pub returns : goal.returns
returns c =
    side-sent (members_held c.args.members.now) (numbered_held c.args.event) (route_held c.args.route) c.sent_in.result (sym c.is_sender.ensures ∙ c.if-is_sender.false) c.sent_in.ensures
