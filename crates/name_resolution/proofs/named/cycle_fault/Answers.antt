use Rattle.std.proofs.Common.{◌<◌, arith, get_or, length}
use Rattle.std.proofs.lemmas.List.{get_or_default}
use Rattle.name_resolution.proofs.Naming.{names-more}
use Rattle.name_resolution.proofs.named.cycle_fault.Goals as goal

pub loop-other-preserved : goal.loop-other-preserved
loop-other-preserved c =
    let i = c.loop-other.other-index in
    let lt : i < length c.args.others.now = grind (arith, c.loop-other-test.true) in
    let n = get_or c.args.others.now i 0 in
    names-more c.args.outlines.now c.args.number c.args.others.now i n c.loop-other.names.items c.name-in-loop-other.new.names.items lt (get_or_default c.args.others.now i 0 n lt) c.loop-other.invariant c.in_ok-name-2.ensures
