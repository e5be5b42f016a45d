use Rattle.check_words.proofs.Coming.{next}
use Rattle.check_words.proofs.Standing.{stands-beside}
use Rattle.needs_of_statements.proofs.Answering.{fewer-stand, want-dropped}
use Rattle.needs_of_assignments.proofs.Putting.{put-comes}
use Rattle.needs_of_assignments.proofs.assignments.assign.Goals as goal

pub returns-clause-stands : goal.returns-clause-stands
returns-clause-stands c = λ env h.
    stands-beside _ (c.in_ok-forget.ensures.stands env (fewer-stand _ _ c.drop_last.ensures (c.in_ok-value.ensures.stands env h))) _ _ _ _

pub returns-clause-comes : goal.returns-clause-comes
returns-clause-comes c = λ env. let a = c.in_ok-what.ensures env in
    next _ _ _ _ _ c.in_ok-value.value.value _ (c.in_ok-value.ensures.comes env)
    (next _ _ _ _ _ tt _ (want-dropped _ _ c.drop_last.ensures)
    (next _ _ _ _ _ a.0 _ a.2
    (put-comes _ _ _ c.in_ok-stmt.stmt c.in_ok-add_stmt.ensures c.in_ok-value.value.value c.args.at a.0 c.in_ok-what.what a.1 (c.in_ok-forget.ensures.comes env) c.in_ok-stmt.ensures)))
