use Rattle.type_model.specs.declared.basic.SemType.{SemType}
use Rattle.code_needs.specs.RowNeeds.{has}
use Rattle.code_needs.specs.declared.kind.Kind.TheVariants.{Booleans}
use Rattle.needs_of_rows.proofs.Finding.{found-at-two, found-not-two}
use Rattle.std.specs.Option.{option_copied}
use Rattle.needs_of_rows.proofs.kinds.compares.Goals as goal

pub returns-in-Some : goal.returns-in-Some
returns-in-Some c =
    found-at-two (λ (a : SemType) (b : SemType). has (option_copied c.args.given) Booleans) c.args.operands.now c.in-Some.field-0.0.now c.in-Some.field-0.1.now _ _ c.in-Some.ensures
    (c.has.ensures)

pub returns-in-None : goal.returns-in-None
returns-in-None c =
    found-not-two (λ (a : SemType) (b : SemType). has (option_copied c.args.given) Booleans) c.args.operands.now _ _ c.in-None.ensures c.refuse.ensures
