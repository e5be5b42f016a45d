use Rattle.code_keeping_heap.proofs.Done.{constructors-are-done}
use Rattle.code_keeping_heap.proofs.laws.constructors_are_done.Goals as goal

pub returns : goal.returns
returns g c = constructors-are-done g.N.Meaning.answers
