use Rattle.std.proofs.Common.{take}
use Rattle.check_words.specs.Calls.{AreCopiesOf}
use Rattle.needs_of_functions.proofs.own_atoms.copies.Given as goal

abbrev pub invariant-loop-t : goal.invariant-loop-t
invariant-loop-t l = AreCopiesOf (take l.t-index l.types) l.made.items
