use Rattle.std.proofs.Common.{arith}
use Rattle.map_traces.specs.Events.{known_of}
use Rattle.map_traces.specs.Trees.{pattern_traced}
use Rattle.map_traces.proofs.Turning.{turn-more}
use Rattle.map_traces.proofs.matches.patterns.Goals as goal

pub loop-p-preserved : goal.loop-p-preserved
loop-p-preserved c =
    turn-more (λ t. pattern_traced (known_of c.args.around) c.args.own t.value) c.args.ps.now c.loop-p.p-index c.p-item.result _ _ _ (grind (arith, c.loop-p-test.true)) c.p-item.is c.loop-p.invariant c.in_ok-pattern.ensures
