use Rattle.std.proofs.Common.{take}
use Rattle.std.specs.List.{AllZip}
use Rattle.needs_of_actions.specs.Awaited.{IsCopyIf}
use Rattle.needs_of_actions.proofs.wanted.copies.Given as goal

abbrev pub invariant-loop-want : goal.invariant-loop-want
invariant-loop-want l = AllZip IsCopyIf (take l.want-index l.wants) l.copies.items
