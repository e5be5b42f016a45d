use Rattle.std.proofs.Common.{◌∙◌, ap}
use Rattle.bal_io.specs.Content.{line_text}
use Rattle.plain_run.proofs.Given.{if-ok}
use Rattle.plain_run.specs.Came.{came_of}
use Rattle.plain_run.specs.Held.{world_of}
use Rattle.plain_library.proofs.Reading.{line-read, line-unread}
use Rattle.plain_library.proofs.input.gives_line.Goals as goal

pub returns-in-Some-clause-row : goal.returns-in-Some-clause-row
returns-in-Some-clause-row c =
    let w = world_of c.args.world.now in
    let same = c.line_text.ensures ∙ ap line_text c.as_slice.ensures.value in
    if-ok _ _ c.gives_text.result (λ came h. line-read w (line_text w.input) c.line_text.result.now c.in_ok-text.field-0 (came_of came c.gives_text.new.world) c.in_ok-text.ensures same c.in-Some.text c.in-Some.is h)
    c.gives_text.ensures.row

pub returns-in-None-clause-row : goal.returns-in-None-clause-row
returns-in-None-clause-row c =
    let w = world_of c.args.world.now in
    let same = c.line_text.ensures ∙ ap line_text c.as_slice.ensures.value in
    if-ok _ _ c.panics.result (λ came h. line-unread w (line_text w.input) c.line_text.result.now c.in_ok-text.field-0 (came_of came c.panics.new.world) c.in_ok-text.ensures same c.in-None.is h)
    c.panics.ensures.row
