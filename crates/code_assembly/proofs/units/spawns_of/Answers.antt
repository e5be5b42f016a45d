use Rattle.std.proofs.Common.{arith}
use Rattle.eval_model.specs.Trees.{worker_facts}
use Rattle.code_assembly.specs.Unit.{spawn_facts}
use Rattle.code_assembly.proofs.Loops.{maps-next}
use Rattle.code_assembly.proofs.units.spawns_of.Goals as goal

pub loop-w-preserved : goal.loop-w-preserved
loop-w-preserved c =
    maps-next worker_facts spawn_facts c.args.ws.now c.loop-w.w-index c.w-item.result _ _ _ (grind (arith, c.loop-w-test.true)) c.w-item.is c.in_ok-push.ensures.items c.loop-w.invariant c.in_ok-spawn.ensures
