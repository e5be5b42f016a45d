use Rattle.std.proofs.Common.{rules, refl}
use Rattle.typed_tree.proofs.ExprLayers.{expr_layers}
use Rattle.check_words.proofs.makers.strict.Goals as goal

pub returns : goal.returns
returns c = (c.args.operands, search (rules, expr_layers), refl)
