use Rattle.plain_run.specs.Held.{common_of}
use Rattle.op_model.specs.CallRows.{strands_made}
use Rattle.std.proofs.Common.{map}
use Rattle.plain_run.specs.Effects.{spawned_of}
use Rattle.plain_calls.proofs.Walking.{strands-more}
use Rattle.plain_calls.proofs.workers.make_strands.Goals as goal

pub loop-s-preserved : goal.loop-s-preserved
loop-s-preserved c =
    strands-more c.args.spawned.now c.loop-s.s-index c.s-item.result (common_of c.loop-s.common) (common_of c.make_strand.new.common) (strands_made (map spawned_of c.args.spawned.now) (common_of c.args.common.now)) c.loop-s-test.true c.s-item.is c.loop-s.invariant c.in_ok-make_strand.ensures
