use Rattle.std.specs.Option.{option_copied}
use Rattle.code_needs.specs.Combining.{none}
use Rattle.code_needs.specs.RowNeeds.{reads}
use Rattle.needs_of_rows.proofs.Finding.{found-then}
use Rattle.needs_of_rows.proofs.slots.reads.Goals as goal

pub returns : goal.returns
returns c =
    found-then (none c.args.operands.now) (reads (option_copied c.args.held) (option_copied c.args.given)) _ _ _ c.none.ensures c.read.ensures
