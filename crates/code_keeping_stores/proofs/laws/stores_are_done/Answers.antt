use Rattle.code_keeping_stores.proofs.Done.{key-stores-are-done}
use Rattle.code_keeping_stores.proofs.laws.stores_are_done.Goals as goal

pub returns : goal.returns
returns g c = key-stores-are-done g.N.Meaning.answers
