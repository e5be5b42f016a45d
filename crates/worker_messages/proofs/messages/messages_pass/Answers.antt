use Rattle.std.proofs.Common.{◌∙◌, Err, arith, map, refl, rules, subst, sym, ◌≡◌}
use Rattle.worker_pairing.specs.Faults.{all_pass, message_passes}
use Rattle.checks.specs.Checks.{Comes}
use Rattle.worker_members.specs.Held.{members_held, numbered_held}
use Rattle.worker_messages.proofs.InOrder.{at-end, leads-all, leads-end, leads-next, leads-stop}
use Rattle.worker_messages.proofs.messages.messages_pass.Goals as goal

pub loop-event-init : goal.loop-event-init
loop-event-init g c =
    (refl, leads-all (message_passes g.T.Types.passes (members_held c.args.members.now)) numbered_held (g.T.Types.atoms c.args.types.now) (map numbered_held c.args.events.now))

pub loop-event-preserved : goal.loop-event-preserved
loop-event-preserved g c = (
  c.in_ok-message_passes.ensures.atoms ∙ c.loop-event.invariant.0,
  leads-next (message_passes g.T.Types.passes (members_held c.args.members.now)) numbered_held (g.T.Types.atoms c.args.types.now) (map numbered_held c.args.events.now) c.args.events.now c.loop-event.event-index
      c.event-item.result (g.T.Types.atoms c.loop-event.types) (g.T.Types.atoms c.message_passes.new.types) (grind (arith, c.loop-event-test.true)) c.event-item.is c.loop-event.invariant.0
      (c.in_ok-message_passes.ensures.atoms ∙ c.loop-event.invariant.0) c.in_ok-message_passes.ensures.comes c.loop-event.invariant.1,
)

pub returns-in_err-message_passes-clause-comes : goal.returns-in_err-message_passes-clause-comes
returns-in_err-message_passes-clause-comes g c =
    let passed : c.from_residual.result ≡ Err c.in_err-message_passes.field-0.0 = search rules in
    let check = all_pass (message_passes g.T.Types.passes (members_held c.args.members.now)) (map numbered_held c.args.events.now) in
    let env = g.T.Types.atoms c.args.types.now in
    let new = g.T.Types.atoms c.message_passes.new.types in
    let same = c.in_err-message_passes.ensures.atoms ∙ c.loop-event.invariant.0 in
    subst (λ r. Comes check env r new) (sym passed)
    (at-end check env new _ same
    (leads-stop (message_passes g.T.Types.passes (members_held c.args.members.now)) numbered_held env (map numbered_held c.args.events.now) c.args.events.now c.loop-event.event-index
    c.event-item.result (g.T.Types.atoms c.loop-event.types) new c.in_err-message_passes.field-0.0 (grind (arith, c.loop-event-test.true)) c.event-item.is c.loop-event.invariant.0 same c.in_err-message_passes.ensures.comes c.loop-event.invariant.1))

pub returns-clause-comes : goal.returns-clause-comes
returns-clause-comes g c =
    at-end (all_pass (message_passes g.T.Types.passes (members_held c.args.members.now)) (map numbered_held c.args.events.now)) (g.T.Types.atoms c.args.types.now) (g.T.Types.atoms c.loop-event.types) _ c.loop-event.invariant.0
    (leads-end (message_passes g.T.Types.passes (members_held c.args.members.now)) numbered_held (g.T.Types.atoms c.args.types.now) (map numbered_held c.args.events.now) c.args.events.now c.loop-event.event-index
    (grind (arith, c.loop-event-test.false)) c.loop-event.invariant.1)
