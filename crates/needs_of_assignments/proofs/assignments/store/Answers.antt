use Rattle.check_words.proofs.Coming.{next}
use Rattle.check_words.proofs.Standing.{stands-beside}
use Rattle.needs_of_assignments.proofs.Putting.{update-comes}
use Rattle.needs_of_assignments.proofs.assignments.store.Goals as goal

pub returns-clause-stands : goal.returns-clause-stands
returns-clause-stands c = λ env h.
    stands-beside _ (c.in_ok-forget.ensures.stands env (c.in_ok-value.ensures.stands env (c.in_ok-op.ensures.stands env h))) _ _ _ _

pub returns-clause-comes : goal.returns-clause-comes
returns-clause-comes c = λ env. let a = c.in_ok-what.ensures env in
    next _ _ _ _ _ c.in_ok-op.op _ (c.in_ok-op.ensures.comes env)
    (next _ _ _ _ _ c.in_ok-value.value.value _ (c.in_ok-value.ensures.comes env)
    (next _ _ _ _ _ a.0 _ a.2
    (update-comes _ _ _ c.update-stmt.result c.in_ok-add_stmt.ensures c.in_ok-value.value.value c.args.update.at c.args.read c.in_ok-op.op c.update_target-to.result c.update-stmt.ensures a.0
    c.in_ok-what.what a.1 (c.in_ok-forget.ensures.comes env) c.update_target-to.ensures)))
