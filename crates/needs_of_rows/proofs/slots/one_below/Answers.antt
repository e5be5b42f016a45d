use Rattle.type_model.specs.declared.basic.SemType.{SemType}
use Rattle.code_needs.specs.Combining.{need}
use Rattle.code_needs.specs.Needs.{Below}
use Rattle.needs_of_rows.proofs.Finding.{found-at-one, found-not-one}
use Rattle.needs_of_rows.proofs.slots.one_below.Goals as goal

pub returns-in-Some : goal.returns-in-Some
returns-in-Some c =
    found-at-one (λ (v : SemType). need (Below v c.args.t.now)) c.args.operands.now c.in-Some.v.now _ _ c.in-Some.ensures
    (c.below.ensures)

pub returns-in-None : goal.returns-in-None
returns-in-None c =
    found-not-one (λ (v : SemType). need (Below v c.args.t.now)) c.args.operands.now _ _ c.in-None.ensures c.refuse.ensures
