use Rattle.kept_done.proofs.Law.{trees-end-none}
use Rattle.kept_done.proofs.laws.trees_end_none.Goals as goal

pub returns : goal.returns
returns c = trees-end-none
