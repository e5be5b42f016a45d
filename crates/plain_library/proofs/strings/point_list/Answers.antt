use Rattle.std.proofs.Common.{◌≡◌, map, pos, rules, subst}
use Rattle.value_model.specs.declared.value.Value.TheVariants.{Int}
use Rattle.op_model.specs.Rows.{GivesList}
use Rattle.plain_run.specs.Came.{came_of}
use Rattle.plain_run.specs.Held.{world_of}
use Rattle.plain_library.proofs.strings.point_list.Goals as goal

pub returns-clause-row : goal.returns-clause-row
returns-clause-row c =
    let items : c.in_ok-items.items.items ≡ map (λ x. Int (pos x)) c.args.text.now = search rules in
    λ own. subst (λ vs. GivesList (world_of c.args.world.now) c.args.atom vs (came_of c.in_ok-came.came c.gives_list.new.world)) items c.in_ok-came.ensures.row
