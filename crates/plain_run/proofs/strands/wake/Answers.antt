use Rattle.std.proofs.Common.{map}
use Rattle.plain_run.specs.Held.{strand_of}
use Rattle.plain_run.proofs.Walking.{wake-more}
use Rattle.plain_run.proofs.strands.wake.Goals as goal

pub loop-n-preserved : goal.loop-n-preserved
loop-n-preserved c =
    wake-more c.args.numbers.now c.loop-n.n-index (map strand_of c.args.strands.now) (map strand_of c.loop-n.strands) (map strand_of c.set_status.new.self) c.loop-n-test.true c.loop-n.invariant c.in_ok-set_status.ensures
