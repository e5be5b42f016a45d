use Rattle.std.proofs.Common.{◌≡◌, map, take}
use Rattle.list_fillers.specs.Marks.{chosen}
use Rattle.filler_tables.proofs.chosen.row.Given as goal

abbrev pub invariant-loop-c : goal.invariant-loop-c
invariant-loop-c l = l.fillers.items ≡ map (chosen l.marks) (take l.c-index l.candidates)
