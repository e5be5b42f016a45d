use Rattle.code_verifier.proofs.Zipping.{zip-more}
use Rattle.detail_questions.specs.inner.Cells.{CellsBelow, IsCell, IsFieldAt, lacks_at}
use Rattle.detail_questions.proofs.tables.fields.Goals as goal

pub loop-name-preserved : goal.loop-name-preserved
loop-name-preserved c =
    zip-more (IsFieldAt (IsCell c.args.cells) (CellsBelow c.args.cells) (lacks_at c.args.cells)) c.args.names.now c.loop-name.made.items c.push.new.self.items c.loop-name.name-index c.name-item.result c.in_ok-field.field-0 c.loop-name-test.true c.name-item.is
    c.loop-name.invariant c.in_ok-field.ensures c.in_ok-push.ensures.items
