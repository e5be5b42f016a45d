use Rattle.std.proofs.Common.{◌≡◌, map, take}
use Rattle.typed_tree.specs.Listed.{run, joined}
use Rattle.input_calls.specs.Calls.{asked, function_calls}
use Rattle.input_calls.proofs.calls.functions.Given as goal

abbrev pub invariant-loop-f : goal.invariant-loop-f
invariant-loop-f l = l.found ≡ run asked (joined (map function_calls (take l.f-index l.functions))) l.before
