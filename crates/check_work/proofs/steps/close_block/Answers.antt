use Rattle.check_words.proofs.Blocks.{block-closed}
use Rattle.check_words.proofs.Standing.{stands-beside}
use Rattle.check_work.specs.Views.{block_of, state_of}
use Rattle.check_work.proofs.Noting.{mapped-last}
use Rattle.check_work.proofs.steps.close_block.Goals as goal

pub returns-clause-stands : goal.returns-clause-stands
returns-clause-stands c = λ env h. stands-beside (state_of env c.args.work.now) h _ _ _ _

pub returns-clause-comes : goal.returns-clause-comes
returns-clause-comes c = λ env. block-closed (state_of env c.args.work.now) _ (block_of c.in_ok-block.block) (mapped-last block_of _ _ _ c.in_ok-block.ensures)
