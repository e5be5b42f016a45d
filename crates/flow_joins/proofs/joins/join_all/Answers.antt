use Rattle.std.proofs.Common.{◌∙◌, arith, length, refl, subst}
use Rattle.flow_narrowing.specs.Flows.{IsJoin}
use Rattle.check_words.specs.Stands.{FlowBelow}
use Rattle.check_words.proofs.Standing.{flow-below}
use Rattle.flow_joins.proofs.Meeting.{leads-begin, leads-end, leads-on}
use Rattle.flow_joins.proofs.joins.join_all.Goals as goal

pub loop-other-init : goal.loop-other-init
loop-other-init g c = let env = g.T.Types.atoms c.args.types.now in (
  refl,
  flow-below (length env) c.args.first.now c.in_ok-joined.joined c.in_ok-joined.ensures c.requires.first,
  leads-begin env c.args.first.now c.args.others.now c.in_ok-joined.joined c.in_ok-joined.ensures,
)

pub loop-other-preserved : goal.loop-other-preserved
loop-other-preserved g c =
    let env = g.T.Types.atoms c.args.types.now in
    let met = c.in_ok-joined-2.ensures in
    let before = c.loop-other.invariant in (
      c.join.ensures.atoms ∙ before.0,
      subst (λ e. FlowBelow (length e) c.in_ok-joined-2.joined) before.0 met.below,
      leads-on env c.args.first.now c.args.others.now c.loop-other.other-index c.loop-other.joined c.other-item.result c.in_ok-joined-2.joined (omega arith) c.other-item.is
          before.2 (subst (λ e. IsJoin e c.loop-other.joined c.other-item.result c.in_ok-joined-2.joined) before.0 met.is),
    )

pub returns-clause-is : goal.returns-clause-is
returns-clause-is g c =
    leads-end (g.T.Types.atoms c.args.types.now) c.args.first.now c.args.others.now c.loop-other.other-index c.loop-other.joined (omega arith) c.loop-other.invariant.2
