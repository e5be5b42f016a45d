use Rattle.std.proofs.Common.{option_map, subst}
use Rattle.std.proofs.lemmas.Int.{to_z-of_z}
use Rattle.plain_run.specs.Came.{came_of}
use Rattle.plain_run.specs.Held.{world_of}
use Rattle.plain_structures.specs.Lookups.{items_at}
use Rattle.plain_library.specs.Parts.{IsPartAt}
use Rattle.plain_library.proofs.Given.{part-given, slice-comes}
use Rattle.plain_library.proofs.lists.slice_of.Goals as goal

pub returns-in_ok-came-in-Some-clause-row : goal.returns-in_ok-came-in-Some-clause-row
returns-in_ok-came-in-Some-clause-row c =
    let w = world_of c.args.world.now in
    let came = came_of c.in_ok-came-in-Some.came c.gives_part.new.world in
    let fits = c.ranges.start in
    let at = simp to_z-of_z at c.in_ok-all.ensures in
    let is = subst (λ o. IsPartAt (items_at w.heap c.args.n) c.args.start c.args.end (option_map (option_map (λ v. v.items)) o)) c.in-Some.is at in
    λ own. slice-comes own w c.args.n c.args.atom c.args.start c.args.end came
    (part-given w c.args.n c.args.atom c.args.start c.args.end came (option_map (λ v. v.items) c.in-Some.all) is c.in_ok-came-in-Some.ensures.row)
