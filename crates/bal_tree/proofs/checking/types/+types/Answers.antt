use Rattle.std.proofs.Common.{rules}
use Rattle.bal_tree.proofs.Forms.{type_forms_behind}
use Rattle.bal_tree.proofs.checking.types.+types.Goals as goal

pub primary-returns-then-type_list : goal.primary-returns-then-type_list
primary-returns-then-type_list t c = search (rules, type_forms_behind)

pub primary-returns-then-field_list : goal.primary-returns-then-field_list
primary-returns-then-field_list t c = search (rules, type_forms_behind)

pub param_types-returns-then-param_type_list : goal.param_types-returns-then-param_type_list
param_types-returns-then-param_type_list t c = search (rules, type_forms_behind)
