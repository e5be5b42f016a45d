use Rattle.std.proofs.Common.{map}
use Rattle.check_work.specs.Views.{match_of, state_of, unit_of}
use Rattle.check_work.proofs.Noting.{at-hand, mapped-last}
use Rattle.needs_of_matches.proofs.MatchSteps.{begun-comes, begun-stands, named-by}
use Rattle.needs_of_loops.proofs.Answered.{read-last}
use Rattle.needs_of_matches.proofs.matches.begin_match.Goals as goal

pub returns-clause-stands : goal.returns-clause-stands
returns-clause-stands c = λ env h.
    let part = c.in_ok-left.ensures in
    let last = read-last _ _ _ c.as_slice.ensures.value part.1 in
    begun-stands (state_of env c.args.work.now) (map unit_of c.args.work.now.around.items) (unit_of c.in_ok-unit.unit.now) (at-hand _ _ _ c.in_ok-unit.ensures) _ c.args.at part.0
    c.in_ok-left.left c.in_ok-before.before c.matched-on.result (match_of c.opened.result) _ last part.2 c.in_ok-before.ensures (named-by _ _ _ _ c.as_slice-2.ensures.value c.matched-on.ensures) c.opened.ensures
    (mapped-last match_of _ _ _ c.in_ok-push.ensures.items) h

pub returns-clause-comes : goal.returns-clause-comes
returns-clause-comes c = λ env.
    let part = c.in_ok-left.ensures in
    let last = read-last _ _ _ c.as_slice.ensures.value part.1 in
    begun-comes (state_of env c.args.work.now) (map unit_of c.args.work.now.around.items) (unit_of c.in_ok-unit.unit.now) (at-hand _ _ _ c.in_ok-unit.ensures) _ c.args.at part.0
    c.in_ok-left.left c.in_ok-before.before c.matched-on.result (match_of c.opened.result) _ last part.2 c.in_ok-before.ensures (named-by _ _ _ _ c.as_slice-2.ensures.value c.matched-on.ensures) c.opened.ensures
    (mapped-last match_of _ _ _ c.in_ok-push.ensures.items)
