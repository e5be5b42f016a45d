use Rattle.std.proofs.Common.{◌≡◌, map, take}
use Rattle.typed_tree.specs.Listed.{run, joined}
use Rattle.input_calls.specs.Calls.{asked, expr_calls}
use Rattle.input_calls.proofs.calls.+expr.Given as goal

abbrev pub invariant-exprs-loop-e : goal.invariant-exprs-loop-e
invariant-exprs-loop-e l = l.found ≡ run asked (joined (map expr_calls (take l.e-index l.exprs))) l.before
