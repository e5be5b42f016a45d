use Rattle.std.proofs.Common.{sym, ◌∙◌}
use Rattle.op_model.specs.Library.{texts_of}
use Rattle.text_forms.specs.Forms.{written}
use Rattle.plain_run.proofs.Given.{if-ok}
use Rattle.plain_run.specs.Came.{came_of}
use Rattle.plain_run.specs.Held.{world_of}
use Rattle.plain_library.proofs.Printing.{print-short}
use Rattle.plain_library.proofs.output.prints.Goals as goal

pub returns-clause-row : goal.returns-clause-row
returns-clause-row c =
    let w = world_of c.args.world.now in
    if-ok _ _ c.writes.result (λ came h. print-short w (texts_of w c.args.values.now) (written c.in_ok-text.text) c.args.end.now (came_of came c.writes.new.world) c.in_ok-text.ensures (written c.add_word.new.out) (sym c.if-is_long.false ∙ c.is_long.ensures) c.in_ok-add_word.ensures h)
    c.writes.ensures.row
