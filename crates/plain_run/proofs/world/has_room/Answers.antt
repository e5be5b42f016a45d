use Rattle.std.proofs.Common.{length, ap}
use Rattle.plain_run.proofs.Room.{none-taken}
use Rattle.plain_run.proofs.Cells.{room-held}
use Rattle.plain_run.proofs.world.has_room.Goals as goal

pub returns : goal.returns
returns c =
    room-held c.args.heap.now c.cells.result c.cells-2.result (length c.as_slice.result.now) c.args.more c.fits.result c.cells.ensures c.cells-2.ensures (ap length c.as_slice.ensures.value)
    (c.fits.ensures _ (c.left_after-left-2.ensures 33554432 _ (c.left_after-left.ensures 33554432 0 (none-taken 33554432))))
