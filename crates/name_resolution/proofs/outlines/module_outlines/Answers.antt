use Rattle.std.proofs.Common.{arith, get_or, ap, ◌∙◌}
use Rattle.name_resolution.specs.Outlines.{file_outlines}
use Rattle.name_resolution.proofs.OutlineLoops.{flat-more}
use Rattle.name_resolution.proofs.outlines.module_outlines.Goals as goal

pub loop-file-preserved : goal.loop-file-preserved
loop-file-preserved c =
    flat-more (λ file. file_outlines c.args.home.now c.args.number file.tree) c.args.«module».now.files c.loop-file.file-index c.file-item.result c.args.out.now.items c.loop-file.out.items c.outlines_in_file.new.out.items (grind (arith, c.loop-file-test.true)) (c.file-item.is ∙ ap (λ xs. get_or xs c.loop-file.file-index c.file-item.result) c.as_slice-file-items.ensures) c.loop-file.invariant c.in_ok-outlines_in_file.ensures
