use Rattle.std.proofs.Common.{All, take}
use Rattle.bal_base.specs.Valid.{IsValid, CaseIsValid}
use Rattle.bal_base.proofs.shape.+valid.Given as goal

abbrev pub invariant-valid::are_valid-loop-x : goal.invariant-valid::are_valid-loop-x
invariant-valid::are_valid-loop-x l = All IsValid (take l.x-index l.shapes)

abbrev pub invariant-valid::fields_valid-loop-x : goal.invariant-valid::fields_valid-loop-x
invariant-valid::fields_valid-loop-x l = All (λ f. IsValid f.1) (take l.x-index l.fields)

abbrev pub invariant-valid::graph_valid-loop-case : goal.invariant-valid::graph_valid-loop-case
invariant-valid::graph_valid-loop-case l = All CaseIsValid (take l.case-index l.cases)
