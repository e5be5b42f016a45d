use Rattle.std.proofs.Common.{arith, refl}
use Rattle.code_maps.specs.Given.{plain_of, tree_points}
use Rattle.code_maps.proofs.Summing.{adds-more, adds-none}
use Rattle.code_maps.proofs.packages.play_all.Goals as goal

pub loop-u-init : goal.loop-u-init
loop-u-init c = adds-none c.args.player.now c.args.player.now refl

pub loop-u-preserved : goal.loop-u-preserved
loop-u-preserved c =
    adds-more (tree_points (plain_of c.args.whole.plain.now) c.args.whole.tree.now c.args.crews.now.counts.items) c.args.us.now c.loop-u.u-index c.u-item.result c.args.player.now c.loop-u.player c.play.new.player (grind (arith, c.loop-u-test.true)) c.u-item.is c.loop-u.invariant c.in_ok-play.ensures
