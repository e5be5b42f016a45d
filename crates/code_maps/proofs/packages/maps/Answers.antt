use Rattle.std.proofs.Common.{map}
use Rattle.std.specs.List.{flat_map}
use Rattle.package_units.specs.Held.{tree_of}
use Rattle.code_maps.specs.Given.{plain_of, tree_points}
use Rattle.code_maps.proofs.Summing.{from-none}
use Rattle.code_maps.proofs.packages.maps.Goals as goal

pub returns : goal.returns
returns c =
    from-none (flat_map (tree_points (plain_of c.args.whole.plain.now) c.args.whole.tree.now c.args.crews.now.counts.items) (map tree_of c.args.us.now)) c.fresh-player.result c.play_all.new.player c.fresh-player.ensures c.in_ok-play_all.ensures
