use Rattle.bal_io.proofs.Writing.{Wrote-more}
use Rattle.bal_io.proofs.std_sink.write_whole.Goals as goal

pub loop-preserved : goal.loop-preserved
loop-preserved g c =
    let before = g.W.Write.contents c.args.stream.now in
    let here = g.W.Write.contents c.loop.stream in
    let now = g.W.Write.contents c.write_some.new.stream in
    rw c.after-rest.ensures (Wrote-more c.args.bytes.now c.loop.rest.now c.in_ok-size.size before here now c.loop.invariant c.in_ok-size.ensures.ok)
