use Rattle.std.specs.Option.{option_copied}
use Rattle.code_needs.specs.Combining.{none}
use Rattle.code_needs.specs.declared.kind.Kind.TheVariants.{Nils}
use Rattle.code_needs.specs.RowNeeds.{has}
use Rattle.needs_of_rows.proofs.Finding.{found-then}
use Rattle.needs_of_rows.proofs.kinds.gives_nil.Goals as goal

pub returns : goal.returns
returns c =
    found-then (none c.args.operands.now) (has (option_copied c.args.given) Nils) _ _ _ c.none.ensures c.has.ensures
