use Rattle.output_growth.proofs.Library.{library-grows}
use Rattle.output_growth.proofs.laws.the_library_only_writes.Goals as goal

pub returns : goal.returns
returns c = library-grows
