use Rattle.std.proofs.Common.{◌∙◌, Err, arith, map, refl, rules, subst, sym, ◌≡◌}
use Rattle.worker_pairing.specs.Faults.{all_pass, member_passes}
use Rattle.checks.specs.Checks.{Comes}
use Rattle.worker_members.specs.Held.{member_held}
use Rattle.worker_messages.proofs.InOrder.{at-end, leads-all, leads-end, leads-next, leads-stop}
use Rattle.worker_messages.proofs.returns.all_pass_in.Goals as goal

pub loop-member-init : goal.loop-member-init
loop-member-init g c =
    (refl, leads-all (member_passes g.T.Types.passes) member_held (g.T.Types.atoms c.args.types.now) (map member_held c.args.members.now))

pub loop-member-preserved : goal.loop-member-preserved
loop-member-preserved g c = (
  c.in_ok-member_passes.ensures.atoms ∙ c.loop-member.invariant.0,
  leads-next (member_passes g.T.Types.passes) member_held (g.T.Types.atoms c.args.types.now) (map member_held c.args.members.now) c.args.members.now c.loop-member.member-index
      c.member-item.result (g.T.Types.atoms c.loop-member.types) (g.T.Types.atoms c.member_passes.new.types) (grind (arith, c.loop-member-test.true)) c.member-item.is c.loop-member.invariant.0
      (c.in_ok-member_passes.ensures.atoms ∙ c.loop-member.invariant.0) c.in_ok-member_passes.ensures.comes c.loop-member.invariant.1,
)

pub returns-in_err-member_passes-clause-comes : goal.returns-in_err-member_passes-clause-comes
returns-in_err-member_passes-clause-comes g c =
    let passed : c.from_residual.result ≡ Err c.in_err-member_passes.field-0.0 = search rules in
    let check = all_pass (member_passes g.T.Types.passes) (map member_held c.args.members.now) in
    let env = g.T.Types.atoms c.args.types.now in
    let new = g.T.Types.atoms c.member_passes.new.types in
    let same = c.in_err-member_passes.ensures.atoms ∙ c.loop-member.invariant.0 in
    subst (λ r. Comes check env r new) (sym passed)
    (at-end check env new _ same
    (leads-stop (member_passes g.T.Types.passes) member_held env (map member_held c.args.members.now) c.args.members.now c.loop-member.member-index
    c.member-item.result (g.T.Types.atoms c.loop-member.types) new c.in_err-member_passes.field-0.0 (grind (arith, c.loop-member-test.true)) c.member-item.is c.loop-member.invariant.0 same c.in_err-member_passes.ensures.comes c.loop-member.invariant.1))

pub returns-clause-comes : goal.returns-clause-comes
returns-clause-comes g c =
    at-end (all_pass (member_passes g.T.Types.passes) (map member_held c.args.members.now)) (g.T.Types.atoms c.args.types.now) (g.T.Types.atoms c.loop-member.types) _ c.loop-member.invariant.0
    (leads-end (member_passes g.T.Types.passes) member_held (g.T.Types.atoms c.args.types.now) (map member_held c.args.members.now) c.args.members.now c.loop-member.member-index
    (grind (arith, c.loop-member-test.false)) c.loop-member.invariant.1)
