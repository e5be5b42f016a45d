-- Layers of type descriptors, for search: a definition over a whole tree, by its outermost layer.
use Rattle.bal_tree.specs.declared.types.IntersectionType.{fold_out-IntersectionType}
use Rattle.bal_tree.specs.declared.types.PostfixType.{fold_out-PostfixType}
use Rattle.bal_tree.specs.declared.types.PrimaryType.{fold_out-PrimaryType}
use Rattle.bal_tree.specs.declared.types.TypeTree.{fold_out-TypeTree}
use Rattle.bal_tree.specs.declared.types.FieldTree.{fold_out-FieldTree}
use Rattle.bal_tree.specs.declared.types.ParamType.{fold_out-ParamType}
use Rattle.bal_tree.specs.declared.types.ParamTypes.{fold_out-ParamTypes}
use Rattle.bal_tree.specs.declared.types.IntersectionType.TheViews.{the_lemmas}

pub ruleset type_layers = (the_lemmas, fold_out-IntersectionType, fold_out-PostfixType, fold_out-PrimaryType, fold_out-TypeTree, fold_out-FieldTree, fold_out-ParamType, fold_out-ParamTypes)
