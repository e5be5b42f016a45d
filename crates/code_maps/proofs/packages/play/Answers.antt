use Rattle.lower_stmt.specs.Bodies.{body_of}
use Rattle.code_maps.proofs.Summing.{adds-so}
use Rattle.code_maps.proofs.packages.play.Goals as goal

pub returns : goal.returns
returns c = adds-so _ _ _ _ (body_of c.args.held.body) c.args.player.now c.unit.new.player c.around.ensures c.in_ok-workers.ensures c.in_ok-unit.ensures
