use Rattle.std.proofs.Common.{◌∙◌, ap, map, sym}
use Rattle.worker_pairing.specs.Events.{before, receives_from, sends_to}
use Rattle.worker_pairing.specs.Faults.{kinds_of}
use Rattle.worker_members.specs.Held.{member_held, members_held, numbered_held}
use Rattle.worker_faults.specs.Routes.{route_held}
use Rattle.worker_faults.proofs.Counted.{place-received, place-sent}
use Rattle.worker_faults.proofs.counting.place_on.Goals as goal

pub returns-then-is_sender : goal.returns-then-is_sender
returns-then-is_sender c =
    place-sent (members_held c.args.members.now) (numbered_held c.args.event) (route_held c.args.route) c.sends_before.result (sym c.is_sender.ensures ∙ c.if-is_sender.true)
    (c.sends_before.ensures ∙ ap (λ ws. before (sends_to c.args.route.to) (kinds_of (map member_held ws) c.args.event.worker) c.args.event.number) c.deref.ensures.value)

pub returns : goal.returns
returns c =
    place-received (members_held c.args.members.now) (numbered_held c.args.event) (route_held c.args.route) c.receives_before.result (sym c.is_sender.ensures ∙ c.if-is_sender.false)
    (c.receives_before.ensures ∙ ap (λ ws. before (receives_from c.args.route.from) (kinds_of (map member_held ws) c.args.event.worker) c.args.event.number) c.deref-2.ensures.value)
