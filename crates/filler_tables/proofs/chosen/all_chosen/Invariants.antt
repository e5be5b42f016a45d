use Rattle.std.proofs.Common.{◌≡◌, map, take}
use Rattle.list_fillers.specs.Marks.{chosen}
use Rattle.filler_tables.proofs.chosen.all_chosen.Given as goal

abbrev pub invariant-loop-candidates : goal.invariant-loop-candidates
invariant-loop-candidates l = l.table.items ≡ map (map (chosen l.marks)) (take l.candidates-index l.rows)
