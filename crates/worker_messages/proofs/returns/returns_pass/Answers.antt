use Rattle.std.proofs.Common.{◌∙◌, Err, arith, map, refl, rules, subst, sym, ◌≡◌}
use Rattle.worker_pairing.specs.Faults.{all_pass, return_passes}
use Rattle.checks.specs.Checks.{Comes}
use Rattle.worker_members.specs.Held.{member_held, returning_held}
use Rattle.worker_messages.proofs.InOrder.{at-end, leads-all, leads-end, leads-next, leads-stop}
use Rattle.worker_messages.proofs.returns.returns_pass.Goals as goal

pub loop-returned-init : goal.loop-returned-init
loop-returned-init g c =
    (refl, leads-all (return_passes g.T.Types.passes (member_held c.args.member.now)) returning_held (g.T.Types.atoms c.args.types.now) (map returning_held c.args.returns.now))

pub loop-returned-preserved : goal.loop-returned-preserved
loop-returned-preserved g c = (
  c.in_ok-return_passes.ensures.atoms ∙ c.loop-returned.invariant.0,
  leads-next (return_passes g.T.Types.passes (member_held c.args.member.now)) returning_held (g.T.Types.atoms c.args.types.now) (map returning_held c.args.returns.now) c.args.returns.now c.loop-returned.returned-index
      c.returned-item.result (g.T.Types.atoms c.loop-returned.types) (g.T.Types.atoms c.return_passes.new.types) (grind (arith, c.loop-returned-test.true)) c.returned-item.is c.loop-returned.invariant.0
      (c.in_ok-return_passes.ensures.atoms ∙ c.loop-returned.invariant.0) c.in_ok-return_passes.ensures.comes c.loop-returned.invariant.1,
)

pub returns-in_err-return_passes-clause-comes : goal.returns-in_err-return_passes-clause-comes
returns-in_err-return_passes-clause-comes g c =
    let passed : c.from_residual.result ≡ Err c.in_err-return_passes.field-0.0 = search rules in
    let check = all_pass (return_passes g.T.Types.passes (member_held c.args.member.now)) (map returning_held c.args.returns.now) in
    let env = g.T.Types.atoms c.args.types.now in
    let new = g.T.Types.atoms c.return_passes.new.types in
    let same = c.in_err-return_passes.ensures.atoms ∙ c.loop-returned.invariant.0 in
    subst (λ r. Comes check env r new) (sym passed)
    (at-end check env new _ same
    (leads-stop (return_passes g.T.Types.passes (member_held c.args.member.now)) returning_held env (map returning_held c.args.returns.now) c.args.returns.now c.loop-returned.returned-index
    c.returned-item.result (g.T.Types.atoms c.loop-returned.types) new c.in_err-return_passes.field-0.0 (grind (arith, c.loop-returned-test.true)) c.returned-item.is c.loop-returned.invariant.0 same c.in_err-return_passes.ensures.comes c.loop-returned.invariant.1))

pub returns-clause-comes : goal.returns-clause-comes
returns-clause-comes g c =
    at-end (all_pass (return_passes g.T.Types.passes (member_held c.args.member.now)) (map returning_held c.args.returns.now)) (g.T.Types.atoms c.args.types.now) (g.T.Types.atoms c.loop-returned.types) _ c.loop-returned.invariant.0
    (leads-end (return_passes g.T.Types.passes (member_held c.args.member.now)) returning_held (g.T.Types.atoms c.args.types.now) (map returning_held c.args.returns.now) c.args.returns.now c.loop-returned.returned-index
    (grind (arith, c.loop-returned-test.false)) c.loop-returned.invariant.1)
