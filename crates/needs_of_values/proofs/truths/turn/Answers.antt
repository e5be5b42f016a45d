use Rattle.std.proofs.Common.{map, option_map, subst}
use Rattle.check_words.specs.Sharing.{SameWays}
use Rattle.check_words.specs.State.{ways_or_same}
use Rattle.check_work.specs.Views.{flow_of, state_of, unit_of, ways_of}
use Rattle.check_work.proofs.Noting.{at-hand}
use Rattle.needs_of_values.proofs.Joined.{turns-come, turns-stand}
use Rattle.needs_of_values.proofs.truths.turn.Goals as goal

pub returns-clause-stands : goal.returns-clause-stands
returns-clause-stands c = λ env own h.
    let same = subst (λ o. SameWays (ways_or_same (option_map ways_of o) (flow_of c.in_ok-unit.unit.now.here)) (ways_of c.in_ok-ways.ways)) c.replace.ensures.value c.in_ok-ways.ensures in
    turns-stand (state_of env c.args.work.now) (map unit_of c.args.work.now.around.items) (unit_of c.in_ok-unit.unit.now) (at-hand _ _ _ c.in_ok-unit.ensures) (ways_of c.in_ok-ways.ways) same
    _ c.args.at _ c.in_ok-gather.ensures h (c.in_ok-ty.ensures.defined env own)

pub returns-clause-comes : goal.returns-clause-comes
returns-clause-comes c = λ env own.
    let same = subst (λ o. SameWays (ways_or_same (option_map ways_of o) (flow_of c.in_ok-unit.unit.now.here)) (ways_of c.in_ok-ways.ways)) c.replace.ensures.value c.in_ok-ways.ensures in
    turns-come (state_of env c.args.work.now) (map unit_of c.args.work.now.around.items) (unit_of c.in_ok-unit.unit.now) (at-hand _ _ _ c.in_ok-unit.ensures) (ways_of c.in_ok-ways.ways) same
    _ c.args.at _ c.in_ok-gather.ensures (c.in_ok-ty.ensures.is env own)
