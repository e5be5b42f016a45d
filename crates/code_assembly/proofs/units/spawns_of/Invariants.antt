use Rattle.std.proofs.Common.{◌≡◌, map, take}
use Rattle.eval_model.specs.Trees.{worker_facts}
use Rattle.code_assembly.specs.Unit.{spawn_facts}
use Rattle.code_assembly.proofs.units.spawns_of.Given as goal

abbrev pub invariant-loop-w : goal.invariant-loop-w
invariant-loop-w l = map spawn_facts l.spawns.items ≡ map worker_facts (take l.w-index l.ws)
