use Rattle.std.proofs.Common.{sym, ap, ◌∙◌}
use Rattle.descriptors.specs.Described.{value_set}
use Rattle.type_builder.proofs.noting.value_set.Goals as goal

pub returns-in-Negative : goal.returns-in-Negative
returns-in-Negative c = c.negative_set.ensures c.in-Negative.at ∙ ap value_set (sym c.in-Negative.is)
