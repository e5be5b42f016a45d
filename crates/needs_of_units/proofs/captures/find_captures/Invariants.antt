use Rattle.std.proofs.Common.{◌≡◌, map, take}
use Rattle.check_words.specs.Calls.{captures}
use Rattle.needs_of_units.specs.Captures.{capture_of}
use Rattle.needs_of_units.proofs.captures.find_captures.Given as goal

abbrev pub invariant-loop-word : goal.invariant-loop-word
invariant-loop-word l = map capture_of l.found.items ≡ captures l.variables (take l.word-index l.uses)
