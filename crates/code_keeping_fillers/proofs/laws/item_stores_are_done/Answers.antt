use Rattle.code_keeping_fillers.proofs.Done.{item-stores-are-done}
use Rattle.code_keeping_fillers.proofs.laws.item_stores_are_done.Goals as goal

pub returns : goal.returns
returns g c = item-stores-are-done g.N.Meaning.answers
