use Rattle.type_model.specs.declared.basic.SemType.{SemType}
use Rattle.code_needs.specs.Combining.{◌&◌, need, of_some}
use Rattle.code_needs.specs.RowNeeds.{within}
use Rattle.code_needs.specs.Needs.{Has, MemberIn}
use Rattle.code_needs.specs.declared.kind.Kind.TheVariants.{Mappings, Nils, Strings}
use Rattle.needs_of_rows.proofs.Finding.{found-at-two, found-not-two, found-split}
use Rattle.std.specs.Option.{option_copied}
use Rattle.needs_of_rows.proofs.members.gets_key.Goals as goal

pub returns-in-Some : goal.returns-in-Some
returns-in-Some c =
    found-at-two (λ (m : SemType) (k : SemType). within m Mappings & within k Strings & of_some (option_copied c.args.given) (λ r. need (MemberIn m k r) & need (Has r Nils))) c.args.operands.now c.in-Some.m.now c.in-Some.k.now _ _ c.in-Some.ensures
    (found-split (within c.in-Some.m.now Mappings) (within c.in-Some.k.now Strings) (of_some (option_copied c.args.given) (λ r. need (MemberIn c.in-Some.m.now c.in-Some.k.now r) & need (Has r Nils))) _ _ _ c.both_within.ensures c.has_member.ensures)

pub returns-in-None : goal.returns-in-None
returns-in-None c =
    found-not-two (λ (m : SemType) (k : SemType). within m Mappings & within k Strings & of_some (option_copied c.args.given) (λ r. need (MemberIn m k r) & need (Has r Nils))) c.args.operands.now _ _ c.in-None.ensures c.refuse.ensures
