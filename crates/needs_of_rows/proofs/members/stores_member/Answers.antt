use Rattle.type_model.specs.declared.basic.SemType.{SemType}
use Rattle.code_needs.specs.Combining.{◌&◌, need}
use Rattle.code_needs.specs.RowNeeds.{within}
use Rattle.code_needs.specs.Needs.{MemberHas}
use Rattle.code_needs.specs.declared.kind.Kind.TheVariants.{Mappings, Strings}
use Rattle.needs_of_rows.proofs.Finding.{found-at-three, found-not-three, found-split}
use Rattle.needs_of_rows.proofs.members.stores_member.Goals as goal

pub returns-in-Some : goal.returns-in-Some
returns-in-Some c =
    found-at-three (λ (m : SemType) (k : SemType) (v : SemType). within m Mappings & within k Strings & need (MemberHas m k v)) c.args.operands.now c.in-Some.m.now c.in-Some.k.now c.in-Some.v.now _ _ c.in-Some.ensures
    (found-split (within c.in-Some.m.now Mappings) (within c.in-Some.k.now Strings) (need (MemberHas c.in-Some.m.now c.in-Some.k.now c.in-Some.v.now)) _ _ _ c.both_within.ensures c.ask.ensures)

pub returns-in-None : goal.returns-in-None
returns-in-None c =
    found-not-three (λ (m : SemType) (k : SemType) (v : SemType). within m Mappings & within k Strings & need (MemberHas m k v)) c.args.operands.now _ _ c.in-None.ensures c.refuse.ensures
