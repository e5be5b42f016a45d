use Rattle.std.proofs.Common.{take}
use Rattle.std.specs.List.{AllZip}
use Rattle.check_words.specs.Sharing.{SameVariable}
use Rattle.check_work.proofs.flows.copy_variables.Given as goal

abbrev pub invariant-loop-v : goal.invariant-loop-v
invariant-loop-v l = AllZip SameVariable (take l.v-index l.variables) l.copies.items
