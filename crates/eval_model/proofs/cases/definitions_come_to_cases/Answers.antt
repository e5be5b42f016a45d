use Rattle.std.proofs.Common.{[], ◌++◌, ◌∷◌, refl, subst, ap, ◌∙◌, List}
use Rattle.operations.specs.declared.operation.Operation.{Operation}
use Rattle.operations.specs.declared.operation.Operation.TheVariants.{Store}
use Rattle.eval_model.specs.Cases.{done_so_far}
use Rattle.eval_model.specs.Walk.{ExprOver}
use Rattle.eval_model.proofs.cases.definitions_come_to_cases.Goals as goal

pub returns-clause-returns_at_its_end : goal.returns-clause-returns_at_its_end
returns-clause-returns_at_its_end c = refl

pub returns-clause-never_at_its_end : goal.returns-clause-never_at_its_end
returns-clause-never_at_its_end c = refl

pub returns-clause-sets_after_its_value : goal.returns-clause-sets_after_its_value
returns-clause-sets_after_its_value c value type at is q (m, expr, store) =
    ap (λ (p : List Operation). p ++ Store 3 ∷ []) (subst (λ e. ExprOver done_so_far e [] m) is expr) ∙ store

pub returns-clause-captures_what_is_narrowed : goal.returns-clause-captures_what_is_narrowed
returns-clause-captures_what_is_narrowed c = λ type at. refl
