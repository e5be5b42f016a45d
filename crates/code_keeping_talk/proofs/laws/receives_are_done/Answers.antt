use Rattle.code_keeping_talk.proofs.Done.{receives-are-done}
use Rattle.code_keeping_talk.proofs.laws.receives_are_done.Goals as goal

pub returns : goal.returns
returns g c = receives-are-done g.N.Meaning.answers
