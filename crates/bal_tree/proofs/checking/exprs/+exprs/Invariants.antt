use Rattle.std.proofs.Common.{◌≡◌, take, true, false}
use Rattle.std.specs.List.{list_all}
use Rattle.bal_tree.specs.ExprRules.{expr_is_formed, member_is_formed, detail_is_formed}
use Rattle.bal_tree.proofs.checking.exprs.+exprs.Given as goal

abbrev pub invariant-exprs-loop-e : goal.invariant-exprs-loop-e
invariant-exprs-loop-e l = list_all (λ e. expr_is_formed e false) (take l.e-index l.es) ≡ true

abbrev pub invariant-members-loop-m : goal.invariant-members-loop-m
invariant-members-loop-m l = list_all (λ m. member_is_formed m false) (take l.m-index l.ms) ≡ true

abbrev pub invariant-details-loop-d : goal.invariant-details-loop-d
invariant-details-loop-d l = list_all (λ d. detail_is_formed d false) (take l.d-index l.ds) ≡ true
