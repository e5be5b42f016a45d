use Rattle.std.proofs.Common.{map, refl}
use Rattle.lower_expr.specs.Drafts.{step_of}
use Rattle.code_maps.proofs.Playing.{push-goes}
use Rattle.code_maps.proofs.player.Player.push.Goals as goal

pub returns : goal.returns
returns c = push-goes c.args.workers (map step_of c.args.steps.now) _ _ c.args.e c.in_ok-push.ensures.items refl refl refl
