use Rattle.std.proofs.Common.{arith, map, subst}
use Rattle.name_resolution.specs.Definitions.{placed}
use Rattle.type_builder.specs.Listing.{Lists}
use Rattle.type_builder.proofs.Listed.{files-more}
use Rattle.type_builder.proofs.placed.Listing.files.Goals as goal

pub loop-file-preserved : goal.loop-file-preserved
loop-file-preserved c =
    files-more c.args.«module» c.args.files.now c.loop-file.file c.index-files-file.result c.args.self.now c.loop-file.self c.defs.new.self (grind (arith, c.loop-file-test.true)) c.index-files-file.is c.loop-file.invariant
    (subst (λ ds. Lists (map (placed c.args.«module» c.loop-file.file) ds) c.loop-file.self c.defs.new.self) c.deref.ensures.value c.in_ok-defs.ensures)
