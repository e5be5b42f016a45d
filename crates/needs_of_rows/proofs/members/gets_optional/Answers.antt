use Rattle.type_model.specs.declared.basic.SemType.{SemType}
use Rattle.code_needs.specs.Combining.{◌&◌, need, of_some}
use Rattle.code_needs.specs.RowNeeds.{within}
use Rattle.code_needs.specs.Needs.{Has, PartIn}
use Rattle.code_needs.specs.declared.kind.Kind.TheVariants.{MappingsOrNils, Nils}
use Rattle.needs_of_rows.proofs.Finding.{found-at-one, found-not-one, found-then}
use Rattle.std.specs.Option.{option_copied}
use Rattle.needs_of_rows.proofs.members.gets_optional.Goals as goal

pub returns-in-Some : goal.returns-in-Some
returns-in-Some c =
    found-at-one (λ (m : SemType). within m MappingsOrNils & of_some (option_copied c.args.given) (λ r. need (PartIn m c.args.keys.now r) & need (Has r Nils))) c.args.operands.now c.in-Some.m.now _ _ c.in-Some.ensures
    (found-then (within c.in-Some.m.now MappingsOrNils) (of_some (option_copied c.args.given) (λ r. need (PartIn c.in-Some.m.now c.args.keys.now r) & need (Has r Nils))) _ _ _ c.within.ensures c.has_part_or.ensures)

pub returns-in-None : goal.returns-in-None
returns-in-None c =
    found-not-one (λ (m : SemType). within m MappingsOrNils & of_some (option_copied c.args.given) (λ r. need (PartIn m c.args.keys.now r) & need (Has r Nils))) c.args.operands.now _ _ c.in-None.ensures c.refuse.ensures
