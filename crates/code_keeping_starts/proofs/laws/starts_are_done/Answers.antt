use Rattle.code_keeping_starts.proofs.Starting.{starts-are-done}
use Rattle.code_keeping_starts.proofs.laws.starts_are_done.Goals as goal

pub returns : goal.returns
returns g c = starts-are-done g.N.Meaning.answers
