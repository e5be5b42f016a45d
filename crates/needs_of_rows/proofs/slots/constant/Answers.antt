use Rattle.std.specs.Option.{option_copied}
use Rattle.code_needs.specs.Combining.{need, none, of_some}
use Rattle.code_needs.specs.Needs.{HasConstant}
use Rattle.needs_of_rows.proofs.Finding.{found-then}
use Rattle.needs_of_rows.proofs.slots.constant.Goals as goal

pub returns : goal.returns
returns c =
    found-then (none c.args.operands.now) (of_some (option_copied c.args.given) (λ r. need (HasConstant r c.args.c.now))) _ _ _ c.none.ensures c.has_constant.ensures
