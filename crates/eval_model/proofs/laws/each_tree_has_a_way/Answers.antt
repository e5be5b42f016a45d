use Rattle.eval_model.proofs.AllWays.{each-expr, each-stmt}
use Rattle.eval_model.proofs.laws.each_tree_has_a_way.Goals as goal

pub returns : goal.returns
returns c = (each-expr, each-stmt)
