use Rattle.std.proofs.Common.{map, option_map, subst}
use Rattle.check_words.specs.Sharing.{SameWays}
use Rattle.check_words.specs.State.{ways_or_same}
use Rattle.check_words.proofs.Entering.{splits-stand}
use Rattle.check_words.proofs.Flowing.{splits-come}
use Rattle.check_work.specs.Views.{choice_of, flow_of, state_of, unit_of, ways_of}
use Rattle.check_work.proofs.Noting.{at-hand, mapped-last}
use Rattle.needs_of_values.proofs.Split.{entered-same, split-same}
use Rattle.needs_of_values.proofs.conditions.split.Goals as goal

pub returns-clause-stands : goal.returns-clause-stands
returns-clause-stands c = λ env h.
    let same = subst (λ o. SameWays (ways_or_same (option_map ways_of o) (flow_of c.in_ok-unit.unit.here)) (ways_of c.in_ok-ways.ways)) c.replace.ensures.value c.in_ok-ways.ensures in
    splits-stand (state_of env c.args.work.now) h (map unit_of c.args.work.now.around.items) (unit_of c.in_ok-unit.unit) (at-hand _ _ _ c.in_ok-unit.ensures) c.args.way _ _ _
    (split-same c.args.way _ _ _ _ _ _ same c.by_side-entered.ensures.other c.in_ok-before.ensures.before c.in_ok-first.ensures)
    (entered-same c.args.way _ _ _ _ same c.by_side-entered.ensures.first c.in_ok-before.ensures.entered)
    (mapped-last choice_of _ _ _ c.in_ok-push.ensures.items)

pub returns-clause-comes : goal.returns-clause-comes
returns-clause-comes c = λ env.
    let same = subst (λ o. SameWays (ways_or_same (option_map ways_of o) (flow_of c.in_ok-unit.unit.here)) (ways_of c.in_ok-ways.ways)) c.replace.ensures.value c.in_ok-ways.ensures in
    splits-come (state_of env c.args.work.now) (map unit_of c.args.work.now.around.items) (unit_of c.in_ok-unit.unit) (at-hand _ _ _ c.in_ok-unit.ensures) c.args.way _ _ _
    (split-same c.args.way _ _ _ _ _ _ same c.by_side-entered.ensures.other c.in_ok-before.ensures.before c.in_ok-first.ensures)
    (entered-same c.args.way _ _ _ _ same c.by_side-entered.ensures.first c.in_ok-before.ensures.entered)
    (mapped-last choice_of _ _ _ c.in_ok-push.ensures.items)
