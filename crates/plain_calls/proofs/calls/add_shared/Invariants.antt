use Rattle.std.specs.Prelude.{◌≡◌, ◌++◌, take}
use Rattle.plain_calls.proofs.calls.add_shared.Given as goal

abbrev pub invariant-loop-v : goal.invariant-loop-v
invariant-loop-v l = l.shared.items ≡ l.fn.shared.items ++ take l.v-index l.fn.values
