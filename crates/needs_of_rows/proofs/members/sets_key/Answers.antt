use Rattle.type_model.specs.declared.basic.SemType.{SemType}
use Rattle.std.specs.Option.{option_copied}
use Rattle.code_needs.specs.Combining.{◌&◌, absent, need, three}
use Rattle.code_needs.specs.RowNeeds.{within}
use Rattle.code_needs.specs.Needs.{MemberHas}
use Rattle.code_needs.specs.declared.kind.Kind.TheVariants.{Mappings, Strings}
use Rattle.needs_of_rows.proofs.Finding.{found-then}
use Rattle.needs_of_rows.proofs.members.sets_key.Goals as goal

pub returns : goal.returns
returns c =
    found-then (three c.args.operands.now (λ (m k v : SemType). within m Mappings & within k Strings & need (MemberHas m k v))) (absent (option_copied c.args.given)) _ _ _ c.stores_member.ensures c.absent.ensures
