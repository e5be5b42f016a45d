use Rattle.type_model.specs.declared.basic.SemType.{SemType}
use Rattle.std.specs.Option.{option_copied}
use Rattle.code_needs.specs.Combining.{absent, need, of_some, one}
use Rattle.code_needs.specs.Needs.{Below}
use Rattle.needs_of_rows.proofs.Finding.{found-then}
use Rattle.needs_of_rows.proofs.slots.writes.Goals as goal

pub returns : goal.returns
returns c =
    found-then (one c.args.operands.now (λ (v : SemType). of_some (option_copied c.args.held) (λ t. need (Below v t)))) (absent (option_copied c.args.given)) _ _ _ c.writes_one.ensures c.absent.ensures
