use Rattle.std.proofs.Common.{None}
use Rattle.code_texts.specs.CodeText.{number_behind}
use Rattle.code_texts.proofs.Listing.{adds-read_more}
use Rattle.code_texts.proofs.instructions.add_entries.Goals as goal

pub loop-entry-preserved : goal.loop-entry-preserved
loop-entry-preserved c =
    adds-read_more number_behind c.args.awaited.now c.loop-entry.entry-index None _ _ _ c.loop-entry-test.true c.loop-entry.invariant c.in_ok-add_entry.ensures
