use Rattle.check_words.proofs.Coming.{next}
use Rattle.check_words.proofs.Standing.{stands-beside}
use Rattle.check_work.specs.Views.{block_of}
use Rattle.needs_of_statements.proofs.Adding.{added-comes}
use Rattle.needs_of_statements.proofs.branches.build_if.Goals as goal

pub returns-clause-stands : goal.returns-clause-stands
returns-clause-stands c = λ env h.
    stands-beside _ (c.in_ok-condition.ensures.stands env (c.in_ok-first.ensures.stands env (c.in_ok-second.ensures.stands env h))) _ _ _ _

pub returns-clause-comes : goal.returns-clause-comes
returns-clause-comes c = λ env.
    next _ _ _ _ _ (block_of c.in_ok-second.second) _ (c.in_ok-second.ensures.comes env)
    (next _ _ _ _ _ (block_of c.in_ok-first.first) _ (c.in_ok-first.ensures.comes env)
    (next _ _ _ _ _ c.in_ok-condition.condition _ (c.in_ok-condition.ensures.comes env) (added-comes _ _ _ c.in_ok-stmt.stmt c.in_ok-add_stmt.ensures c.in_ok-stmt.ensures)))
