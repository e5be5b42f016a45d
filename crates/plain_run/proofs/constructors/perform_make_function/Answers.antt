use Rattle.std.proofs.Common.{ap, ◌∙◌}
use Rattle.op_model.specs.Effects.{lifted}
use Rattle.op_model.specs.StructureRows.{makes_function}
use Rattle.plain_run.specs.Held.{common_of, with_world, world_of}
use Rattle.plain_run.proofs.constructors.perform_make_function.Goals as goal

pub returns-clause-row : goal.returns-clause-row
returns-clause-row c = λ facts caller.
    let old = c.args.common.now in
    c.lifted.ensures.row (with_world old c.gives_function.new.world)
    ∙ ap (lifted (common_of old)) (c.in_ok-came.ensures.row ∙ ap (makes_function (world_of old.world) c.args.unit) c.in_ok-captured.ensures)

pub returns-clause-stays : goal.returns-clause-stays
returns-clause-stays c = c.lifted.ensures.stays c.args.common.now c.gives_function.new.world c.in_ok-came.ensures.stays
