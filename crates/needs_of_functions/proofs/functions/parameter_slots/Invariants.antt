use Rattle.std.proofs.Common.{take}
use Rattle.std.specs.List.{AllZip}
use Rattle.descriptors.specs.Described.{IsCopy}
use Rattle.needs_of_functions.proofs.functions.parameter_slots.Given as goal

abbrev pub invariant-loop-t : goal.invariant-loop-t
invariant-loop-t l = AllZip (λ t u. IsCopy t u.value) (take l.t-index l.params) l.slots.items
