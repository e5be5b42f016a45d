use Rattle.type_model.specs.declared.basic.SemType.{SemType}
use Rattle.code_needs.specs.Combining.{◌&◌}
use Rattle.code_needs.specs.declared.kind.Kind.TheVariants.{Integers}
use Rattle.code_needs.specs.RowNeeds.{within}
use Rattle.needs_of_rows.proofs.Finding.{found-at-three, found-not-three, found-then}
use Rattle.needs_of_rows.proofs.library.between.Goals as goal

pub returns-in-Some : goal.returns-in-Some
returns-in-Some c =
    found-at-three (λ (a : SemType) (from : SemType) (to : SemType). within a c.args.whole & within from Integers & within to Integers) c.args.operands.now c.in-Some.a.now c.in-Some.from.now c.in-Some.to.now _ _ c.in-Some.ensures
    (found-then (within c.in-Some.a.now c.args.whole) (within c.in-Some.from.now Integers & within c.in-Some.to.now Integers) _ _ _ c.within.ensures c.both_within.ensures)

pub returns-in-None : goal.returns-in-None
returns-in-None c =
    found-not-three (λ (a : SemType) (from : SemType) (to : SemType). within a c.args.whole & within from Integers & within to Integers) c.args.operands.now _ _ c.in-None.ensures c.refuse.ensures
