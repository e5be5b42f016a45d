use Rattle.type_model.specs.declared.basic.SemType.{SemType}
use Rattle.std.specs.Option.{option_copied}
use Rattle.code_needs.specs.Combining.{◌&◌, absent, need, three}
use Rattle.code_needs.specs.RowNeeds.{within}
use Rattle.code_needs.specs.Needs.{ItemHas}
use Rattle.code_needs.specs.declared.kind.Kind.TheVariants.{Integers, Lists}
use Rattle.needs_of_rows.proofs.Finding.{found-then}
use Rattle.needs_of_rows.proofs.members.sets_item.Goals as goal

pub returns : goal.returns
returns c =
    found-then (three c.args.operands.now (λ (l i v : SemType). within l Lists & within i Integers & need (ItemHas l i v))) (absent (option_copied c.args.given)) _ _ _ c.stores_item.ensures c.absent.ensures
