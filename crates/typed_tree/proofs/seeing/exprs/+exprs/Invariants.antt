use Rattle.std.proofs.Common.{◌≡◌, take, true}
use Rattle.std.specs.List.{list_all}
use Rattle.typed_tree.specs.Checking.{detail_keeps_on, expr_keeps_on, member_keeps_on}
use Rattle.typed_tree.proofs.seeing.exprs.+exprs.Given as goal

abbrev pub invariant-exprs-loop-e : goal.invariant-exprs-loop-e
invariant-exprs-loop-e l = list_all expr_keeps_on (take l.e-index l.es) ≡ true

abbrev pub invariant-members-loop-m : goal.invariant-members-loop-m
invariant-members-loop-m l = list_all member_keeps_on (take l.m-index l.ms) ≡ true

abbrev pub invariant-details-loop-d : goal.invariant-details-loop-d
invariant-details-loop-d l = list_all detail_keeps_on (take l.d-index l.ds) ≡ true
