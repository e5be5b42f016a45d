use Rattle.std.proofs.Common.{ap, Some, ◌∙◌}
use Rattle.std.specs.Prelude.{not}
use Rattle.value_model.specs.Heap.{Items}
use Rattle.op_model.specs.Effects.{lifted}
use Rattle.op_model.specs.Rows.{gives_structure, new_structure}
use Rattle.plain_run.specs.Held.{common_of, with_world, world_of}
use Rattle.plain_run.proofs.constructors.perform_make_list.Goals as goal

pub returns-clause-row : goal.returns-clause-row
returns-clause-row c = λ facts caller.
    let old = c.args.common.now in
    c.lifted.ensures.row (with_world old c.gives_structure.new.world)
    ∙ ap (lifted (common_of old)) (c.in_ok-came.ensures.row
    ∙ ap (gives_structure (world_of old.world)) (c.new_structure-made.ensures ∙ ap (λ vs. new_structure (Some c.args.atom) (not c.args.immutable) (Items vs)) c.in_ok-items.ensures))

pub returns-clause-stays : goal.returns-clause-stays
returns-clause-stays c = c.lifted.ensures.stays c.args.common.now c.gives_structure.new.world c.in_ok-came.ensures.stays
