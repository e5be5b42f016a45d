use Rattle.std.specs.Option.{option_copied}
use Rattle.code_needs.specs.Combining.{none, nothing, of_some}
use Rattle.needs_of_rows.proofs.Finding.{found-then}
use Rattle.needs_of_rows.proofs.kinds.receives.Goals as goal

pub returns : goal.returns
returns c =
    found-then (none c.args.operands.now) (of_some (option_copied c.args.given) (λ r. nothing)) _ _ _ c.none.ensures c.something.ensures
