use Rattle.std.proofs.Common.{◌<◌, arith, length}
use Rattle.code_maps.proofs.Counting.{counted-here}
use Rattle.code_maps.proofs.exchanged.count.Goals as goal

pub returns : goal.returns
returns c =
    let ns = c.args.numbers.now.items in
    let lt : c.args.worker < length ns = grind (arith, c.if-w-len.false, c.len.ensures) in
    counted-here ns c.args.worker c.index-so_far.result.now lt c.index-so_far.ensures
