use Rattle.built_names.proofs.Leading.{built-rests-are-lists}
use Rattle.built_names.proofs.laws.built_rests_are_lists.Goals as goal

pub returns : goal.returns
returns c = built-rests-are-lists
