use Rattle.std.proofs.Common.{◌∙◌, arith, map, sym}
use Rattle.worker_pairing.specs.Faults.{is_unpaired, unpaired_fault}
use Rattle.worker_members.specs.Held.{members_held, numbered_held}
use Rattle.worker_faults.proofs.Stops.{leads-all, leads-end, leads-next, leads-stop}
use Rattle.worker_faults.proofs.pairs.none_unpaired.Goals as goal

pub loop-event-init : goal.loop-event-init
loop-event-init c = leads-all (is_unpaired (members_held c.args.members.now)) (unpaired_fault (members_held c.args.members.now)) (map numbered_held c.args.text.now)

pub loop-event-preserved : goal.loop-event-preserved
loop-event-preserved c =
    leads-next (is_unpaired (members_held c.args.members.now)) (unpaired_fault (members_held c.args.members.now)) (map numbered_held c.args.text.now) c.args.text.now c.loop-event.event-index c.event-item.result (omega arith) c.event-item.is
    (sym c.is_unpaired.ensures ∙ c.if-is_unpaired.false) c.loop-event.invariant

pub returns-then-is_unpaired : goal.returns-then-is_unpaired
returns-then-is_unpaired c =
    leads-stop (is_unpaired (members_held c.args.members.now)) (unpaired_fault (members_held c.args.members.now)) (map numbered_held c.args.text.now) c.args.text.now c.loop-event.event-index c.event-item.result c.unpaired_at.result (omega arith) c.event-item.is
    (sym c.is_unpaired.ensures ∙ c.if-is_unpaired.true) c.unpaired_at.ensures c.loop-event.invariant

pub returns : goal.returns
returns c =
    leads-end (is_unpaired (members_held c.args.members.now)) (unpaired_fault (members_held c.args.members.now)) (map numbered_held c.args.text.now) c.args.text.now c.loop-event.event-index (omega arith) c.loop-event.invariant
