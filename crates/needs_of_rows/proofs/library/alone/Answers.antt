use Rattle.type_model.specs.declared.basic.SemType.{SemType}
use Rattle.code_needs.specs.Combining.{nothing}
use Rattle.needs_of_rows.proofs.Finding.{found-at-one, found-not-one, found-nothing}
use Rattle.needs_of_rows.proofs.library.alone.Goals as goal

pub returns-in-Some : goal.returns-in-Some
returns-in-Some c = found-at-one (λ (s : SemType). nothing) c.args.operands.now c.in-Some.field-0.now _ _ c.in-Some.ensures (found-nothing _)

pub returns-in-None : goal.returns-in-None
returns-in-None c = found-not-one (λ (s : SemType). nothing) c.args.operands.now _ _ c.in-None.ensures c.refuse.ensures
