use Rattle.place_numbers.proofs.Whole.{front-long}
use Rattle.place_numbers.proofs.places.keeps_front.Goals as goal

pub returns : goal.returns
returns c = c.keeps_below.ensures _ (front-long _ c.stack_at-types.result.now c.saturating_sub.result c.stack_at-types.ensures c.saturating_sub.ensures)
