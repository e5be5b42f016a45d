use Rattle.std.proofs.Common.{◌≡◌, length}
use Rattle.code_assembly.proofs.assembly.variable_types.Given as goal

abbrev pub invariant-loop-v : goal.invariant-loop-v
invariant-loop-v l = length l.types.items ≡ l.v-index
