use Rattle.type_model.specs.declared.basic.SemType.{SemType}
use Rattle.code_needs.specs.RowNeeds.{within}
use Rattle.needs_of_rows.proofs.Finding.{found-at-one, found-not-one}
use Rattle.needs_of_rows.proofs.kinds.only_within.Goals as goal

pub returns-in-Some : goal.returns-in-Some
returns-in-Some c =
    found-at-one (λ (a : SemType). within a c.args.kind) c.args.operands.now c.in-Some.a.now _ _ c.in-Some.ensures
    (c.within.ensures)

pub returns-in-None : goal.returns-in-None
returns-in-None c =
    found-not-one (λ (a : SemType). within a c.args.kind) c.args.operands.now _ _ c.in-None.ensures c.refuse.ensures
