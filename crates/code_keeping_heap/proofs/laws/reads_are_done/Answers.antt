use Rattle.code_keeping_heap.proofs.Done.{reads-are-done}
use Rattle.code_keeping_heap.proofs.laws.reads_are_done.Goals as goal

pub returns : goal.returns
returns g c = reads-are-done g.N.Meaning.answers
