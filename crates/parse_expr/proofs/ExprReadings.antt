-- What search needs at expressions that are put together from what was read.
use Rattle.bal_tree.proofs.ExprLayers.{expr_layers}
use Rattle.bal_tree.proofs.Forms.{expr_forms}

pub ruleset expr_readings = (expr_layers, expr_forms)
