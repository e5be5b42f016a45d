use Rattle.check_words.proofs.Coming.{next}
use Rattle.check_words.proofs.Standing.{stands-beside}
use Rattle.check_work.specs.Views.{state_of}
use Rattle.needs_of_statements.proofs.Adding.{added-comes}
use Rattle.needs_of_statements.proofs.endings.end_with_nil.Goals as goal

pub returns-clause-stands : goal.returns-clause-stands
returns-clause-stands c = λ env h. c.in_ok-stop.ensures.stands env (stands-beside (state_of env c.args.work.now) h _ _ _ _)

pub returns-clause-comes : goal.returns-clause-comes
returns-clause-comes c = λ env.
    next _ _ _ _ _ tt _ (added-comes _ (state_of env c.args.work.now) _ c.return_nothing.result c.in_ok-add_stmt.ensures c.return_nothing.ensures) (c.in_ok-stop.ensures.comes env)
