use Rattle.std.proofs.Common.{take}
use Rattle.std.specs.List.{AllZip}
use Rattle.check_words.specs.Sharing.{SameShared}
use Rattle.needs_of_functions.proofs.copies.shared_all.Given as goal

abbrev pub invariant-loop-t : goal.invariant-loop-t
invariant-loop-t l = AllZip SameShared (take l.t-index l.types) l.handles.items
