use Rattle.type_model.specs.declared.basic.SemType.{SemType}
use Rattle.std.specs.Option.{option_copied}
use Rattle.code_needs.specs.Combining.{absent, need, one}
use Rattle.code_needs.specs.Needs.{Below}
use Rattle.needs_of_rows.proofs.Finding.{found-then}
use Rattle.needs_of_rows.proofs.slots.returns.Goals as goal

pub returns : goal.returns
returns c =
    found-then (one c.args.operands.now (λ (v : SemType). need (Below v c.args.outcome.now))) (absent (option_copied c.args.given)) _ _ _ c.one_below.ensures c.absent.ensures
