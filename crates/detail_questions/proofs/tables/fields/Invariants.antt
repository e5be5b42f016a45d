use Rattle.std.proofs.Common.{take}
use Rattle.std.specs.List.{AllZip}
use Rattle.detail_questions.specs.inner.Cells.{CellsBelow, IsCell, IsFieldAt, lacks_at}
use Rattle.detail_questions.proofs.tables.fields.Given as goal

abbrev pub invariant-loop-name : goal.invariant-loop-name
invariant-loop-name l = AllZip (IsFieldAt (IsCell l.cells) (CellsBelow l.cells) (lacks_at l.cells)) (take l.name-index l.names) l.made.items
