use Rattle.check_work.specs.Views.{match_of, state_of}
use Rattle.check_work.proofs.Noting.{mapped-last}
use Rattle.needs_of_matches.proofs.EndSteps.{closed-stands, match-closed}
use Rattle.needs_of_matches.proofs.MatchSteps.{match-below}
use Rattle.needs_of_matches.proofs.ends.close_match.Goals as goal

pub returns-clause-stands : goal.returns-clause-stands
returns-clause-stands c = λ env h. closed-stands (state_of env c.args.work.now) _ (match_of c.in_ok-held.held) (mapped-last match_of _ _ _ c.in_ok-held.ensures) h

pub returns-clause-below : goal.returns-clause-below
returns-clause-below c = λ env h. match-below (state_of env c.args.work.now) _ (match_of c.in_ok-held.held) (mapped-last match_of _ _ _ c.in_ok-held.ensures) h

pub returns-clause-comes : goal.returns-clause-comes
returns-clause-comes c = λ env. match-closed (state_of env c.args.work.now) _ (match_of c.in_ok-held.held) (mapped-last match_of _ _ _ c.in_ok-held.ensures)
