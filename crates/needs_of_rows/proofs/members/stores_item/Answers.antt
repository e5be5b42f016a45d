use Rattle.type_model.specs.declared.basic.SemType.{SemType}
use Rattle.code_needs.specs.Combining.{◌&◌, need}
use Rattle.code_needs.specs.RowNeeds.{within}
use Rattle.code_needs.specs.Needs.{ItemHas}
use Rattle.code_needs.specs.declared.kind.Kind.TheVariants.{Integers, Lists}
use Rattle.needs_of_rows.proofs.Finding.{found-at-three, found-not-three, found-split}
use Rattle.needs_of_rows.proofs.members.stores_item.Goals as goal

pub returns-in-Some : goal.returns-in-Some
returns-in-Some c =
    found-at-three (λ (l : SemType) (i : SemType) (v : SemType). within l Lists & within i Integers & need (ItemHas l i v)) c.args.operands.now c.in-Some.l.now c.in-Some.i.now c.in-Some.v.now _ _ c.in-Some.ensures
    (found-split (within c.in-Some.l.now Lists) (within c.in-Some.i.now Integers) (need (ItemHas c.in-Some.l.now c.in-Some.i.now c.in-Some.v.now)) _ _ _ c.both_within.ensures c.ask.ensures)

pub returns-in-None : goal.returns-in-None
returns-in-None c =
    found-not-three (λ (l : SemType) (i : SemType) (v : SemType). within l Lists & within i Integers & need (ItemHas l i v)) c.args.operands.now _ _ c.in-None.ensures c.refuse.ensures
