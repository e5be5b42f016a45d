use Rattle.check_words.proofs.Coming.{next}
use Rattle.check_words.proofs.Standing.{stands-beside}
use Rattle.check_work.specs.Views.{block_of}
use Rattle.needs_of_statements.proofs.Adding.{added-comes}
use Rattle.needs_of_statements.proofs.blocks.make_block.Goals as goal

pub returns-clause-stands : goal.returns-clause-stands
returns-clause-stands c = λ env h. stands-beside _ (c.in_ok-inner.ensures.stands env h) _ _ _ _

pub returns-clause-comes : goal.returns-clause-comes
returns-clause-comes c = λ env.
    next _ _ _ _ _ (block_of c.in_ok-inner.inner) _ (c.in_ok-inner.ensures.comes env) (added-comes _ _ _ c.block_stmt.result c.in_ok-add_stmt.ensures c.block_stmt.ensures)
