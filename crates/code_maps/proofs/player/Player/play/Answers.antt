use Rattle.std.proofs.Common.{arith, map}
use Rattle.lower_expr.specs.Drafts.{step_of}
use Rattle.code_maps.proofs.Playing.{goes-more}
use Rattle.code_maps.proofs.player.Player.play.Goals as goal

pub loop-e-preserved : goal.loop-e-preserved
loop-e-preserved c =
    goes-more c.args.workers (map step_of c.args.steps.now) c.args.events.now c.loop-e.e-index c.e-item.result _ _ _ (grind (arith, c.loop-e-test.true)) c.e-item.is c.loop-e.invariant c.in_ok-event.ensures
