use Rattle.place_numbers.proofs.Whole.{rest-long}
use Rattle.place_numbers.proofs.places.count_below.Goals as goal

pub returns : goal.returns
returns c = λ o e. rest-long o _ c.stack_at-types.result.now c.operand_count.result c.saturating_sub.result c.stack_at-types.ensures (c.operand_count.ensures o e) c.saturating_sub.ensures
