use Rattle.std.specs.Option.{option_copied}
use Rattle.code_needs.specs.Combining.{absent, none}
use Rattle.needs_of_rows.proofs.Finding.{found-then}
use Rattle.needs_of_rows.proofs.kinds.nothing.Goals as goal

pub returns : goal.returns
returns c =
    found-then (none c.args.operands.now) (absent (option_copied c.args.given)) _ _ _ c.none.ensures c.absent.ensures
