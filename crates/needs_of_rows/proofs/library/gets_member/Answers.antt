use Rattle.type_model.specs.declared.basic.SemType.{SemType}
use Rattle.code_needs.specs.Combining.{◌&◌, need, of_some}
use Rattle.code_needs.specs.Needs.{PartIn}
use Rattle.code_needs.specs.RowNeeds.{makes_none, within}
use Rattle.code_needs.specs.declared.kind.Kind.TheVariants.{Mappings, Strings}
use Rattle.needs_of_rows.proofs.Finding.{found-at-two, found-not-two, found-split}
use Rattle.std.specs.Option.{option_copied}
use Rattle.needs_of_rows.proofs.library.gets_member.Goals as goal

pub returns-in-Some : goal.returns-in-Some
returns-in-Some c =
    found-at-two (λ (m : SemType) (k : SemType). within m Mappings & within k Strings & makes_none c.args.atom (of_some (option_copied c.args.given) (λ r. need (PartIn m c.args.keys.now r)))) c.args.operands.now c.in-Some.m.now c.in-Some.k.now _ _ c.in-Some.ensures
    (found-split (within c.in-Some.m.now Mappings) (within c.in-Some.k.now Strings) (makes_none c.args.atom (of_some (option_copied c.args.given) (λ r. need (PartIn c.in-Some.m.now c.args.keys.now r)))) _ _ _ c.both_within.ensures c.gives_part.ensures)

pub returns-in-None : goal.returns-in-None
returns-in-None c =
    found-not-two (λ (m : SemType) (k : SemType). within m Mappings & within k Strings & makes_none c.args.atom (of_some (option_copied c.args.given) (λ r. need (PartIn m c.args.keys.now r)))) c.args.operands.now _ _ c.in-None.ensures c.refuse.ensures
