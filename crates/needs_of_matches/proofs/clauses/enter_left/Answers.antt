use Rattle.std.proofs.Common.{map}
use Rattle.check_work.specs.Views.{match_of, state_of, unit_of}
use Rattle.check_work.proofs.Noting.{at-hand}
use Rattle.needs_of_matches.proofs.ClauseSteps.{left-comes, left-stands, mapped-is}
use Rattle.needs_of_loops.proofs.Answered.{read-last}
use Rattle.needs_of_matches.proofs.clauses.enter_left.Goals as goal

pub returns-clause-stands : goal.returns-clause-stands
returns-clause-stands c = λ env h.
    left-stands (state_of env c.args.work.now) (map unit_of c.args.work.now.around.items) (unit_of c.in_ok-unit.unit) (at-hand _ _ _ c.in_ok-unit.ensures) (match_of c.in_ok-held.held.now)
    (mapped-is match_of _ _ (read-last _ _ _ c.as_slice.ensures.value c.in_ok-held.ensures)) _ c.in_ok-enter_as.ensures h

pub returns-clause-comes : goal.returns-clause-comes
returns-clause-comes c = λ env.
    left-comes (state_of env c.args.work.now) (map unit_of c.args.work.now.around.items) (unit_of c.in_ok-unit.unit) (at-hand _ _ _ c.in_ok-unit.ensures) (match_of c.in_ok-held.held.now)
    (mapped-is match_of _ _ (read-last _ _ _ c.as_slice.ensures.value c.in_ok-held.ensures)) _ c.in_ok-enter_as.ensures
