use Rattle.check_words.proofs.Coming.{next}
use Rattle.check_words.proofs.Standing.{stands-beside}
use Rattle.needs_of_statements.proofs.Adding.{added-comes}
use Rattle.needs_of_statements.proofs.Answering.{fewer-stand, want-dropped}
use Rattle.needs_of_statements.proofs.endings.give.Goals as goal

pub returns-clause-stands : goal.returns-clause-stands
returns-clause-stands c = λ env h. c.in_ok-stop.ensures.stands env (stands-beside _ (fewer-stand _ _ c.drop_last.ensures (c.in_ok-value.ensures.stands env h)) _ _ _ _)

pub returns-clause-comes : goal.returns-clause-comes
returns-clause-comes c = λ env.
    next _ _ _ _ _ c.in_ok-value.value _ (c.in_ok-value.ensures.comes env)
    (next _ _ _ _ _ tt _ (want-dropped _ _ c.drop_last.ensures)
    (next _ _ _ _ _ tt _ (added-comes _ _ _ c.in_ok-stmt.stmt c.in_ok-add_stmt.ensures c.in_ok-stmt.ensures) (c.in_ok-stop.ensures.comes env)))
