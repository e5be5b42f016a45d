use Rattle.std.proofs.Common.{map, take}
use Rattle.check_words.specs.Sharing.{SameUnit}
use Rattle.check_work.specs.Views.{unit_of}
use Rattle.needs_of_units.specs.Captures.{capture_of, with_captures}
use Rattle.needs_of_units.proofs.captures.capture_all.Given as goal

abbrev pub invariant-loop-c : goal.invariant-loop-c
invariant-loop-c l = SameUnit (with_captures l.in_worker (map capture_of (take l.c-index l.cs)) (unit_of l.initial.unit)) (unit_of l.unit)
