use Rattle.std.proofs.Common.{take}
use Rattle.needs_of_made_calls.specs.Applied.{AreCopied}
use Rattle.needs_of_made_calls.proofs.applied.types_of.Given as goal

abbrev pub invariant-loop-part : goal.invariant-loop-part
invariant-loop-part l = AreCopied (take l.part-index l.parts) l.found.items
