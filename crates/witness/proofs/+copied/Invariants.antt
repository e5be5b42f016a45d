use Rattle.std.proofs.Common.{take}
use Rattle.std.specs.List.{AllZip}
use Rattle.bal_base.specs.Same.{IsSame, IsSameField}
use Rattle.witness.proofs.+copied.Given as goal

abbrev pub invariant-copied::all_copied-loop-x : goal.invariant-copied::all_copied-loop-x
invariant-copied::all_copied-loop-x l = AllZip IsSame (take l.x-index l.parts) l.made.items

abbrev pub invariant-copied::fields_copied-loop-key : goal.invariant-copied::fields_copied-loop-key
invariant-copied::fields_copied-loop-key l = AllZip IsSameField (take l.key-index l.fields) l.made.items
