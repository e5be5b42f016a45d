use Rattle.std.proofs.Common.{◌≡◌, take, true, false}
use Rattle.std.specs.List.{list_all}
use Rattle.bal_tree.specs.TypeRules.{type_is_formed, field_is_formed, param_type_is_formed}
use Rattle.bal_tree.proofs.checking.types.+types.Given as goal

abbrev pub invariant-type_list-loop-t : goal.invariant-type_list-loop-t
invariant-type_list-loop-t l = list_all (λ t. type_is_formed t false) (take l.t-index l.types) ≡ true

abbrev pub invariant-field_list-loop-f : goal.invariant-field_list-loop-f
invariant-field_list-loop-f l = list_all (λ f. field_is_formed f false) (take l.f-index l.fields) ≡ true

abbrev pub invariant-param_type_list-loop-p : goal.invariant-param_type_list-loop-p
invariant-param_type_list-loop-p l = list_all (λ p. param_type_is_formed p false) (take l.p-index l.params) ≡ true
