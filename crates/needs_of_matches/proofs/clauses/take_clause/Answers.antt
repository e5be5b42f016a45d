use Rattle.std.proofs.Common.{map}
use Rattle.check_work.specs.Views.{match_of, state_of, unit_of}
use Rattle.check_work.proofs.Noting.{at-hand, mapped-last}
use Rattle.needs_of_matches.specs.Clauses.{takes_clause}
use Rattle.needs_of_loops.proofs.Answered.{by-same}
use Rattle.needs_of_matches.proofs.ClauseSteps.{taken-comes, taken-stands}
use Rattle.needs_of_matches.proofs.MatchSteps.{same-last}
use Rattle.needs_of_matches.proofs.clauses.take_clause.Goals as goal

pub returns-clause-stands : goal.returns-clause-stands
returns-clause-stands c = λ env yes no h.
    taken-stands (state_of env c.args.work.now) (map unit_of c.args.work.now.around.items) (unit_of c.in_ok-unit.unit) (at-hand _ _ _ c.in_ok-unit.ensures) _ (match_of c.in_ok-held.held)
    (mapped-last match_of _ _ _ c.in_ok-held.ensures) c.args.both _ (mapped-last match_of _ _ _ c.in_ok-push.ensures.items) _ c.in_ok-enter_as.ensures yes no h

pub returns-clause-comes : goal.returns-clause-comes
returns-clause-comes c = λ env m last.
    let s = state_of env c.args.work.now in
    let held = match_of c.in_ok-held.held in
    let are = mapped-last match_of _ _ _ c.in_ok-held.ensures in
    by-same (λ n. takes_clause n c.args.both) _ _ _ _ _ (same-last _ held m (record { kept = _; is = are }) last)
    (taken-comes s (map unit_of c.args.work.now.around.items) (unit_of c.in_ok-unit.unit) (at-hand _ _ _ c.in_ok-unit.ensures) _ held are c.args.both _
    (mapped-last match_of _ _ _ c.in_ok-push.ensures.items) _ c.in_ok-enter_as.ensures)
