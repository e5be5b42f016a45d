use Rattle.needs_of_commands.proofs.Parts.{parts-before}
use Rattle.needs_of_commands.proofs.does.operands_at.Goals as goal

pub returns : goal.returns
returns c = λ o e. parts-before o _ _ _ _ _ c.stack_at-types.ensures (c.operand_count-count.ensures o e) c.split_behind.ensures.rest c.split_behind.ensures.last
