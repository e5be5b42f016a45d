use Rattle.std.proofs.Common.{ap, ◌∙◌}
use Rattle.op_model.specs.Effects.{lifted}
use Rattle.op_model.specs.Rows.{gives_error}
use Rattle.plain_run.specs.Held.{common_of, with_world, world_of}
use Rattle.plain_strands.proofs.waits.gives_taken.Goals as goal

pub returns-clause-row : goal.returns-clause-row
returns-clause-row c =
    let old = c.args.common.now in
    c.lifted.ensures.row (with_world old c.error_given.new.world)
    ∙ ap (lifted (common_of old)) (c.in_ok-came.ensures.row ∙ ap (gives_error (world_of old.world)) c.in_ok-message.ensures)

pub returns-clause-stays : goal.returns-clause-stays
returns-clause-stays c = c.lifted.ensures.stays c.args.common.now c.error_given.new.world c.in_ok-came.ensures.stays
