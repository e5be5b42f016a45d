use Rattle.std.proofs.Common.{◌<◌, None, arith, get_or, length}
use Rattle.std.proofs.lemmas.List.{get_or_default}
use Rattle.code_frames.proofs.Futures.{futures-more}
use Rattle.code_frames.proofs.local.futures.Goals as goal

pub loop-name-preserved : goal.loop-name-preserved
loop-name-preserved c =
    let names = c.args.names.now in
    let i = c.loop-name.name-index in
    let name = get_or names i None in
    let lt : i < length names = omega arith in
    let most = c.counted-count.ensures.most in
    let before = c.loop-name.invariant.1 in
    (futures-more names i name c.loop-name.count c.counted-count.result lt (get_or_default names i None name lt) c.loop-name.invariant.0 c.counted-count.ensures.count, omega (arith, most, before))
