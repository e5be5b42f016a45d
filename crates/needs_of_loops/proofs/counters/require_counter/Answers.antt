use Rattle.needs_of_loops.proofs.Answered.{read-last}
use Rattle.needs_of_loops.proofs.counters.require_counter.Goals as goal

pub counter_fits-requires-clause-last : goal.counter_fits-requires-clause-last
counter_fits-requires-clause-last g c = (read-last _ _ _ c.as_slice.ensures.value c.in-Some.ensures)
