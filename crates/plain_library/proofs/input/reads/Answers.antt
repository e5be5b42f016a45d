use Rattle.std.proofs.Common.{◌≡◌, ◌∙◌, ◌<◌, refl, subst, ap}
use Rattle.std.specs.List.{position_or_len}
use Rattle.bal_io.specs.Content.{is_line_feed}
use Rattle.text_forms.specs.Forms.{written}
use Rattle.plain_run.specs.Came.{came_of}
use Rattle.plain_run.specs.Held.{world_of}
use Rattle.plain_library.proofs.Reading.{cut-comes, line-comes}
use Rattle.plain_library.proofs.input.reads.Goals as goal

pub returns-then-size-gt-MOST_LINE_BYTES-clause-row : goal.returns-then-size-gt-MOST_LINE_BYTES-clause-row
returns-then-size-gt-MOST_LINE_BYTES-clause-row c =
    let w = world_of c.args.world.now in
    let size : c.line_size-size.result ≡ position_or_len is_line_feed w.input = c.line_size-size.ensures.size ∙ ap (position_or_len is_line_feed) c.as_slice.ensures.value in
    let long : 67108864 < position_or_len is_line_feed w.input = subst (λ n. 67108864 < n) size c.if-size-gt-MOST_LINE_BYTES.true in
    cut-comes w (written c.args.prompt.now) (came_of c.in_ok-came.came c.panics.new.world) c.behind.result c.behind.new.world 67108864 refl long c.in_ok-came.ensures.row c.behind.ensures.row

pub returns-then-size-gt-MOST_LINE_BYTES-clause-stays : goal.returns-then-size-gt-MOST_LINE_BYTES-clause-stays
returns-then-size-gt-MOST_LINE_BYTES-clause-stays c = c.behind.ensures.stays c.args.world.now c.in_ok-came.ensures.stays

pub returns-clause-row : goal.returns-clause-row
returns-clause-row c =
    let w = world_of c.args.world.now in
    let size : c.line_size-size.result ≡ position_or_len is_line_feed w.input = c.line_size-size.ensures.size ∙ ap (position_or_len is_line_feed) c.as_slice.ensures.value in
    line-comes w (written c.args.prompt.now) (came_of c.in_ok-came-2.came c.gives_line.new.world) c.behind-2.result c.behind-2.new.world c.line_size-size.result size c.if-size-gt-MOST_LINE_BYTES.false c.in_ok-came-2.ensures.row c.behind-2.ensures.row

pub returns-clause-stays : goal.returns-clause-stays
returns-clause-stays c = c.behind-2.ensures.stays c.args.world.now c.in_ok-came-2.ensures.stays
