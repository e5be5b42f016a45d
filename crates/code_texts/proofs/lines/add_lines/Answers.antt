use Rattle.code_texts.proofs.Listing.{adds-line_more}
use Rattle.code_texts.proofs.lines.add_lines.Goals as goal

pub loop-place-preserved : goal.loop-place-preserved
loop-place-preserved c =
    adds-line_more c.args.instrs.now c.loop-place.place c.index-instrs-place.result _ _ _ c.loop-place-test.true c.index-instrs-place.is c.loop-place.invariant c.in_ok-add_line.ensures
