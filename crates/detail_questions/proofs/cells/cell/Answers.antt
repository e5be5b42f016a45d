use Rattle.std.proofs.Common.{IfOk, subst, sym}
use Rattle.std.specs.Prelude.{option_copied}
use Rattle.detail_questions.specs.declared.cells.Cells.{Cells}
use Rattle.detail_questions.specs.inner.Cells.{CellsBelow, IsCell, IsTypeBy}
use Rattle.detail_questions.proofs.cells.cell.Goals as goal

pub returns-in-Values : goal.returns-in-Values
returns-in-Values c = subst (λ (cs : Cells). IfOk c.values_at.result (IsTypeBy (λ env. IsCell cs env (option_copied c.args.text)) (CellsBelow cs))) (sym c.in-Values.is) c.values_at.ensures

pub returns-in-Without : goal.returns-in-Without
returns-in-Without c = subst (λ (cs : Cells). IfOk c.without.result (IsTypeBy (λ env. IsCell cs env (option_copied c.args.text)) (CellsBelow cs))) (sym c.in-Without.is) c.without.ensures
