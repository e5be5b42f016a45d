use Rattle.std.proofs.Common.{arith}
use Rattle.map_traces.specs.Events.{known_of}
use Rattle.map_traces.specs.Trees.{expr_traced}
use Rattle.map_traces.proofs.Turning.{turn-more}
use Rattle.map_traces.proofs.walk_exprs.+expr.Goals as goal

pub exprs-loop-e-preserved : goal.exprs-loop-e-preserved
exprs-loop-e-preserved t c =
    turn-more (expr_traced (known_of c.args.around)) c.args.es.now c.loop-e.e-index c.e-item.result _ _ _ (grind (arith, c.loop-e-test.true)) c.e-item.is c.loop-e.invariant c.in_ok-expr.ensures
