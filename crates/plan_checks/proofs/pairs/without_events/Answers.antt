use Rattle.std.proofs.Common.{arith, subst, sym}
use Rattle.std.specs.Prelude.{option_map}
use Rattle.worker_pairing.specs.Marks.{members_of}
use Rattle.plan_checks.specs.Stripping.{Strips, pairs_in}
use Rattle.plan_checks.proofs.Counting.{said-within}
use Rattle.plan_checks.proofs.Stripped.{event-next, event-none, events, events-all}
use Rattle.plan_checks.proofs.pairs.without_events.Goals as goal

pub returns-in_err-left : goal.returns-in_err-left
returns-in_err-left c =
    let ms = members_of c.args.f.now in
    subst (λ o. Strips (pairs_in ms c.args.part (events ms c.args.part c.args.worker)) c.args.given.now (option_map (λ r. r.now) o)) (sym c.from_residual.ensures)
    (event-none ms c.args.part c.args.worker c.args.given.now c.loop-number.left.now c.loop-number.number c.loop-number.invariant c.in_err-left.ensures)

pub loop-number-preserved : goal.loop-number-preserved
loop-number-preserved c =
    event-next (members_of c.args.f.now) c.args.part c.args.worker c.args.given.now c.loop-number.left.now c.in_ok-left.left.now c.loop-number.number c.loop-number.invariant c.in_ok-left.ensures

pub returns : goal.returns
returns c =
    let ms = members_of c.args.f.now in
    let within = said-within ms c.args.worker in
    let few = c.requires in
    let test = c.loop-number-test.false in
    events-all ms c.args.part c.args.worker c.args.given.now c.loop-number.left.now c.loop-number.number (omega (arith, within, few, test)) c.loop-number.invariant
