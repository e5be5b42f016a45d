use Rattle.check_work.specs.Views.{match_of, state_of}
use Rattle.check_work.proofs.Noting.{mapped-last}
use Rattle.needs_of_matches.proofs.MatchSteps.{pattern-comes, pattern-stands}
use Rattle.needs_of_matches.proofs.patterns.put_pattern.Goals as goal

pub returns-clause-stands : goal.returns-clause-stands
returns-clause-stands c = λ env h.
    pattern-stands (state_of env c.args.work.now) _ (match_of c.in_ok-held.held) (mapped-last match_of _ _ _ c.in_ok-held.ensures) c.args.value c.args.at _ _ c.in_ok-push.ensures.items
    (mapped-last match_of _ _ _ c.in_ok-push-2.ensures.items) h

pub returns-clause-comes : goal.returns-clause-comes
returns-clause-comes c = λ env.
    pattern-comes (state_of env c.args.work.now) _ (match_of c.in_ok-held.held) (mapped-last match_of _ _ _ c.in_ok-held.ensures) c.args.value c.args.at _ _ c.in_ok-push.ensures.items
    (mapped-last match_of _ _ _ c.in_ok-push-2.ensures.items)
