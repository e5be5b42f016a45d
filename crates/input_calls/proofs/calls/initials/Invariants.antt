use Rattle.std.proofs.Common.{◌≡◌, map, take}
use Rattle.typed_tree.specs.Listed.{run, joined}
use Rattle.input_calls.specs.Calls.{asked, initial_calls}
use Rattle.input_calls.proofs.calls.initials.Given as goal

abbrev pub invariant-loop-i : goal.invariant-loop-i
invariant-loop-i l = l.found ≡ run asked (joined (map initial_calls (take l.i-index l.initials))) l.before
