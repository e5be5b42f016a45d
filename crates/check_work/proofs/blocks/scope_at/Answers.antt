use Rattle.std.proofs.Common.{map, refl}
use Rattle.check_work.specs.Views.{block_of}
use Rattle.check_work.proofs.Noting.{mapped-last}
use Rattle.check_work.proofs.blocks.scope_at.Goals as goal

pub returns-in-Some : goal.returns-in-Some
returns-in-Some c =
    let last = c.in-Some.ensures in
    (block_of c.in-Some.block.now, record { kept = map block_of last.kept; is = mapped-last block_of c.args.blocks.now last.kept c.in-Some.block.now last.is }, refl)
