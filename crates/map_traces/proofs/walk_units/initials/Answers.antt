use Rattle.std.proofs.Common.{arith}
use Rattle.map_traces.specs.Events.{known_of}
use Rattle.map_traces.specs.Trees.{initial_traced}
use Rattle.map_traces.proofs.Turning.{turn-more}
use Rattle.map_traces.proofs.walk_units.initials.Goals as goal

pub loop-i-preserved : goal.loop-i-preserved
loop-i-preserved c =
    turn-more (initial_traced (known_of c.args.around)) c.args.is.now c.loop-i.i-index c.i-item.result _ _ _ (grind (arith, c.loop-i-test.true)) c.i-item.is c.loop-i.invariant c.in_ok-initial.ensures
