use Rattle.code_keeping_sends.proofs.Done.{sends-are-done}
use Rattle.code_keeping_sends.proofs.laws.sends_are_done.Goals as goal

pub returns : goal.returns
returns g c = sends-are-done g.N.Meaning.answers
