use Rattle.code_keeping.proofs.Serving.{good-heaps-are-served}
use Rattle.code_keeping.proofs.laws.good_heaps_are_served.Goals as goal

pub returns : goal.returns
returns c = good-heaps-are-served
