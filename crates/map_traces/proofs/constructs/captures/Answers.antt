use Rattle.std.proofs.Common.{arith}
use Rattle.map_traces.specs.Constructs.{captured_loaded}
use Rattle.map_traces.specs.Events.{known_of}
use Rattle.map_traces.proofs.Turning.{turn-more}
use Rattle.map_traces.proofs.constructs.captures.Goals as goal

pub loop-c-preserved : goal.loop-c-preserved
loop-c-preserved c =
    turn-more (captured_loaded (known_of c.args.around)) c.args.captured.now c.loop-c.c-index c.c-item.result _ _ _ (grind (arith, c.loop-c-test.true)) c.c-item.is c.loop-c.invariant c.in_ok-loads_captured.ensures
