use Rattle.std.proofs.Common.{take}
use Rattle.std.specs.List.{AllZip}
use Rattle.bal_base.specs.Same.{IsSame, IsSameField, IsSameCase}
use Rattle.bal_base.proofs.shape.+copy.Given as goal

abbrev pub invariant-copy::copies-loop-x : goal.invariant-copy::copies-loop-x
invariant-copy::copies-loop-x l = AllZip IsSame (take l.x-index l.shapes) l.made.items

abbrev pub invariant-copy::copy_fields-loop-key : goal.invariant-copy::copy_fields-loop-key
invariant-copy::copy_fields-loop-key l = AllZip IsSameField (take l.key-index l.fields) l.made.items

abbrev pub invariant-copy::copy_cases-loop-case : goal.invariant-copy::copy_cases-loop-case
invariant-copy::copy_cases-loop-case l = AllZip IsSameCase (take l.case-index l.cases) l.made.items
