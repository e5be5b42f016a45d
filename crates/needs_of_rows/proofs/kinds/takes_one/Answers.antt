use Rattle.type_model.specs.declared.basic.SemType.{SemType}
use Rattle.std.specs.Option.{option_copied}
use Rattle.code_needs.specs.Combining.{absent, one}
use Rattle.code_needs.specs.RowNeeds.{within}
use Rattle.needs_of_rows.proofs.Finding.{found-then}
use Rattle.needs_of_rows.proofs.kinds.takes_one.Goals as goal

pub returns : goal.returns
returns c =
    found-then (one c.args.operands.now (λ (a : SemType). within a c.args.kind)) (absent (option_copied c.args.given)) _ _ _ c.only_within.ensures c.absent.ensures
