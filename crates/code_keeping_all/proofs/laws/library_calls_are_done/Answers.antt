use Rattle.code_keeping_all.proofs.Safe.{library-calls-are-done}
use Rattle.code_keeping_all.proofs.laws.library_calls_are_done.Goals as goal

pub returns : goal.returns
returns c = library-calls-are-done
