use Rattle.std.proofs.Common.{map, take}
use Rattle.std.specs.List.{flat_map}
use Rattle.package_units.specs.Held.{tree_of}
use Rattle.code_maps.specs.Given.{Adds, plain_of, tree_points}
use Rattle.code_maps.proofs.packages.play_all.Given as goal

abbrev pub invariant-loop-u : goal.invariant-loop-u
invariant-loop-u l = Adds (flat_map (tree_points (plain_of l.whole.plain.now) l.whole.tree.now l.crews.counts.items) (map tree_of (take l.u-index l.us))) l.fn.player l.player
