use mir.Val.{to_z, of_z}
use Rattle.std.proofs.Common.{◌≡◌, rules, subst, w64}
use Rattle.op_model.specs.StructureRows.{ReadsItem}
use Rattle.plain_run.specs.Held.{with_world, world_of}
use Rattle.plain_structures.specs.Rows.{IsRowOf}
use Rattle.plain_structures.proofs.Doing.{item-done}
use Rattle.plain_structures.proofs.reads.perform_get_item.Goals as goal

pub returns-in_ok-came-in-Some-clause-row : goal.returns-in_ok-came-in-Some-clause-row
returns-in_ok-came-in-Some-clause-row c =
    let old = c.args.common.now in
    let w = c.reads_item.new.world in
    let same : to_z w64 (of_z w64 c.in-Some.i) ≡ c.in-Some.i = search rules in
    let row = subst (λ i. IsRowOf (ReadsItem (world_of old.world) c.in-Some.n i) w c.in_ok-came-in-Some.came) same c.in_ok-came-in-Some.ensures.row in
    λ facts caller. item-done facts caller c.args.operands.now old w c.in_ok-came-in-Some.came c.performed.result (c.performed.ensures.row (with_world old w)) c.in-Some.n c.in-Some.i c.in-Some.ensures row

pub returns-in_ok-came-in-Some-clause-stays : goal.returns-in_ok-came-in-Some-clause-stays
returns-in_ok-came-in-Some-clause-stays c = c.performed.ensures.stays c.args.common.now c.reads_item.new.world c.in_ok-came-in-Some.ensures.stays
