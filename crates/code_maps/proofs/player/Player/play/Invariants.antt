use Rattle.std.proofs.Common.{map, take}
use Rattle.lower_expr.specs.Drafts.{step_of}
use Rattle.map_traces.specs.Events.{all_traced}
use Rattle.code_maps.specs.Played.{Goes}
use Rattle.code_maps.proofs.player.Player.play.Given as goal

abbrev pub invariant-loop-e : goal.invariant-loop-e
invariant-loop-e l = Goes l.workers (map step_of l.steps) (all_traced (take l.e-index l.events)) l.fn.self l.self
