use Rattle.op_model.proofs.LibraryOnce.{library-one}
use Rattle.op_model.proofs.laws.library_answers_once.Goals as goal

pub returns : goal.returns
returns c = library-one
