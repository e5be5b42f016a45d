-- Calls and anonymous functions, but for those that add atoms: two runs of each need come to the same.
use Rattle.std.proofs.Common.{List}
use Rattle.descriptors.specs.declared.names.Names.{Names}
use Rattle.type_model.specs.declared.answers.TypeLimit.{TypeLimit}
use Rattle.type_model.specs.declared.atoms.AtomDef.{AtomDef}
use Rattle.type_model.specs.Calls.{Asked}
use Rattle.expr_needs.specs.Needs.{CallsValue, CallsMethod, ExpectsArgument, IsArgument, BeginsAnonymous, HasParameter, BeginsValue, IsNew}
use Rattle.check_answers.specs.Laws.{CallsAgree}
use Rattle.check_answers.proofs.Agreeing.{agrees-before, agrees-behind}
use Rattle.check_answers.proofs.Calls.{argument-leads, begins-anonymous-leads, begins-value-leads, calls-method-leads, calls-value-leads, expects-argument-leads, has-parameter-leads, new-leads}

module _ (passes : List AtomDef → Asked → TypeLimit → Type 0) (names : Names) where
  pub calls-agree : CallsAgree passes names
  calls-agree =
      record {
        calls_value = agrees-before passes names CallsValue (λ m n twins. calls-value-leads m n passes);
        calls_method = λ w count at. agrees-before passes names (CallsMethod w count at) (λ m n twins. calls-method-leads m n passes w count at);
        expects_argument = λ at. agrees-behind passes names (ExpectsArgument at) (λ m n twins. expects-argument-leads m n passes twins at);
        is_argument = λ at. agrees-before passes names (IsArgument at) (λ m n twins. argument-leads m n passes at);
        begins_anonymous = agrees-before passes names BeginsAnonymous (λ m n twins. begins-anonymous-leads m n);
        has_parameter = λ w. agrees-before passes names (HasParameter w) (λ m n twins. has-parameter-leads m n w);
        begins_value = λ used. agrees-before passes names (BeginsValue used) (λ m n twins. begins-value-leads m n used);
        is_new = λ w. agrees-before passes names (IsNew w) (λ m n twins. new-leads m n w);
      }
