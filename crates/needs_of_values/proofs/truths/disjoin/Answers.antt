use Rattle.std.proofs.Common.{length, map, option_map, subst, sym}
use Rattle.flow_narrowing.specs.Flows.{IsJoin}
use Rattle.check_words.specs.Sharing.{SameWays}
use Rattle.check_words.specs.Stands.{FlowBelow}
use Rattle.check_words.specs.State.{ways_or_same}
use Rattle.check_work.specs.Views.{flow_of, state_of, unit_of, ways_of}
use Rattle.check_work.proofs.Noting.{at-hand}
use Rattle.needs_of_values.proofs.Joined.{disjoins-come, disjoins-stand, other-stands, ways-stand}
use Rattle.needs_of_values.proofs.truths.disjoin.Goals as goal

pub join-requires-clause-first : goal.join-requires-clause-first
join-requires-clause-first g c =
    let env = g.T.Types.atoms c.args.types.now in
    let left = c.in_ok-ways.ensures in
    let same = subst (λ o. SameWays (ways_or_same (option_map ways_of o) (flow_of left.unit.here)) (ways_of c.in_ok-ways.ways)) c.replace-ways.ensures.value left.same in
    subst (FlowBelow (length env)) (sym left.other)
    (other-stands (state_of env c.args.work.now) (map unit_of c.args.work.now.around.items) (unit_of left.unit) (at-hand _ _ _ left.was) _ left.choice left.closed (flow_of left.here) left.before _ (at-hand _ _ _ left.is) _ same c.requires.stands)

pub join-requires-clause-second : goal.join-requires-clause-second
join-requires-clause-second g c =
    let env = g.T.Types.atoms c.args.types.now in
    let left = c.in_ok-ways.ensures in
    let same = subst (λ o. SameWays (ways_or_same (option_map ways_of o) (flow_of left.unit.here)) (ways_of c.in_ok-ways.ways)) c.replace-ways.ensures.value left.same in
    (ways-stand (state_of env c.args.work.now) c.requires.stands (map unit_of c.args.work.now.around.items) (unit_of left.unit) (at-hand _ _ _ left.was) _ same).yes

pub returns-clause-stands : goal.returns-clause-stands
returns-clause-stands g c =
    let env = g.T.Types.atoms c.args.types.now in
    let left = c.in_ok-ways.ensures in
    let same = subst (λ o. SameWays (ways_or_same (option_map ways_of o) (flow_of left.unit.here)) (ways_of c.in_ok-ways.ways)) c.replace-ways.ensures.value left.same in
    disjoins-stand (state_of env c.args.work.now) (map unit_of c.args.work.now.around.items) (unit_of left.unit) (at-hand _ _ _ left.was) _ left.choice left.closed (flow_of left.here) left.before _ (at-hand _ _ _ left.is) _ same
    c.args.at c.in_ok-ty.ty _ c.in_ok-yes.yes c.requires.stands (c.in_ok-ty.ensures.defined env c.requires.own) c.in_ok-one_of.ensures c.in_ok-yes.ensures.below

pub returns-clause-comes : goal.returns-clause-comes
returns-clause-comes g c =
    let env = g.T.Types.atoms c.args.types.now in
    let left = c.in_ok-ways.ensures in
    let same = subst (λ o. SameWays (ways_or_same (option_map ways_of o) (flow_of left.unit.here)) (ways_of c.in_ok-ways.ways)) c.replace-ways.ensures.value left.same in
    disjoins-come (state_of env c.args.work.now) (map unit_of c.args.work.now.around.items) (unit_of left.unit) (at-hand _ _ _ left.was) _ left.choice left.closed (flow_of left.here) left.before _ (at-hand _ _ _ left.is) _ same
    c.args.at c.in_ok-ty.ty _ c.in_ok-yes.yes (subst (λ f. IsJoin env f c.in_ok-ways.ways.yes c.in_ok-yes.yes) left.other c.in_ok-yes.ensures.is) (c.in_ok-ty.ensures.is env c.requires.own) c.in_ok-one_of.ensures
