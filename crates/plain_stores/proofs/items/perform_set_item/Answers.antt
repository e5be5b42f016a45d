use mir.Val.{to_z, of_z}
use Rattle.std.proofs.Common.{◌≡◌, rules, subst, w64}
use Rattle.op_model.specs.ProgramFacts.{own_types}
use Rattle.op_model.specs.Rows.{place_of}
use Rattle.op_model.specs.StructureRows.{SetsItem}
use Rattle.plain_run.specs.ProgramFacts.{facts_of}
use Rattle.plain_run.specs.Held.{with_world, world_of}
use Rattle.plain_structures.specs.Rows.{IsTried}
use Rattle.store_tests.specs.Questions.{StoreIsBeyond}
use Rattle.plain_stores.proofs.Performed.{item-done}
use Rattle.plain_stores.proofs.items.perform_set_item.Goals as goal

pub returns-in_ok-came-in-Some-clause-row : goal.returns-in_ok-came-in-Some-clause-row
returns-in_ok-came-in-Some-clause-row c =
    let facts = c.args.facts.now in
    let old = c.args.common.now in
    let w = c.sets_item.new.world in
    let n = c.in-Some.n in
    let v = c.in-Some.v in
    let same : to_z w64 (of_z w64 c.in-Some.i) ≡ c.in-Some.i = search rules in
    let row = subst (λ i. IsTried (SetsItem (own_types (facts_of facts)) (facts_of facts).fillers (world_of old.world) n i v) (StoreIsBeyond facts old.world n (place_of i) v) w c.in_ok-came-in-Some.came) same c.in_ok-came-in-Some.ensures.row in
    λ caller. item-done facts caller c.args.operands.now old w c.in_ok-came-in-Some.came c.answered.result (c.answered.ensures.row (with_world old w)) n c.in-Some.i v c.in-Some.ensures row

pub returns-in_ok-came-in-Some-clause-stays : goal.returns-in_ok-came-in-Some-clause-stays
returns-in_ok-came-in-Some-clause-stays c = c.answered.ensures.stays c.args.common.now c.sets_item.new.world c.in_ok-came-in-Some.ensures.stays
