-- Assignments with an operator: two runs of each need come to the same.
use Rattle.std.proofs.Common.{List}
use Rattle.descriptors.specs.declared.names.Names.{Names}
use Rattle.type_model.specs.declared.answers.TypeLimit.{TypeLimit}
use Rattle.type_model.specs.declared.atoms.AtomDef.{AtomDef}
use Rattle.type_model.specs.Calls.{Asked}
use Rattle.expr_needs.specs.Needs.{IsOperand, UpdatesName, UpdatesElement, UpdatesField}
use Rattle.check_answers.specs.Laws.{UpdatesAgree}
use Rattle.check_answers.proofs.Agreeing.{agrees-before, agrees-behind}
use Rattle.check_answers.proofs.Updates.{operand-leads, updates-element-leads, updates-field-leads, updates-name-leads}

module _ (passes : List AtomDef → Asked → TypeLimit → Type 0) (names : Names) where
  pub updates-agree : UpdatesAgree passes names
  updates-agree =
      record {
        is_operand = λ op at. agrees-behind passes names (IsOperand op at) (λ m n twins. operand-leads m n passes op at);
        updates_name = λ q op at. agrees-before passes names (UpdatesName q op at) (λ m n twins. updates-name-leads m n passes names q op at);
        updates_element = λ op at. agrees-before passes names (UpdatesElement op at) (λ m n twins. updates-element-leads m n passes op at);
        updates_field = λ w op at. agrees-before passes names (UpdatesField w op at) (λ m n twins. updates-field-leads m n passes w op at);
      }
