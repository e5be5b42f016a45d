use Rattle.std.proofs.Common.{subst, sym}
use Rattle.std.specs.Prelude.{Some}
use Rattle.op_model.specs.ProgramFacts.{own_types}
use Rattle.op_model.specs.Rows.{gives_nothing, within}
use Rattle.op_model.specs.Stores.{StoresAt, item_stored}
use Rattle.plain_run.specs.ProgramFacts.{facts_of}
use Rattle.plain_run.specs.Held.{world_of}
use Rattle.plain_structures.specs.Rows.{IsTried}
use Rattle.store_tests.specs.Questions.{StoreIsBeyond}
use Rattle.store_tests.specs.Tests.{IsTested, ItemComes, StoresItem}
use Rattle.plain_stores.proofs.Tried.{list-other, tried-row}
use Rattle.plain_stores.proofs.items.stores_at.Goals as goal

pub returns-in_ok-came-in-Panics-clause-row : goal.returns-in_ok-came-in-Panics-clause-row
returns-in_ok-came-in-Panics-clause-row c =
    let facts = c.args.facts.now in
    let w = c.args.world.now in
    let n = c.args.n in
    let k = c.args.place in
    let v = c.args.v.now in
    let tested = subst (IsTested (StoresItem facts w n k v) (ItemComes facts w n k v) (world_of w) (StoreIsBeyond facts w n (Some k) v)) c.in-Panics.is c.in_ok-tests_item.ensures in
    subst (StoresItem facts w n k v) (sym c.in_ok-came-in-Panics.ensures.row) tested

pub returns-in_ok-came-in-Passed-clause-row : goal.returns-in_ok-came-in-Passed-clause-row
returns-in_ok-came-in-Passed-clause-row c =
    let facts = c.args.facts.now in
    let w = c.args.world.now in
    let n = c.args.n in
    let k = c.args.place in
    let v = c.args.v.now in
    let new = c.stores.new.world in
    let tested = subst (IsTested (StoresItem facts w n k v) (ItemComes facts w n k v) (world_of w) (StoreIsBeyond facts w n (Some k) v)) c.in-Passed.is c.in_ok-tests_item.ensures in
    subst (IsTried (StoresItem facts w n k v) (StoreIsBeyond facts w n (Some k) v) new) (sym c.tried_of.ensures)
    (tried-row (StoresItem facts w n k v) (ItemComes facts w n k v) (StoreIsBeyond facts w n (Some k) v) new c.in_ok-came-in-Passed.came tested
    (λ came row. list-other (world_of w) n (λ s vs. StoresAt (own_types (facts_of facts)) (facts_of facts).fillers (world_of w) n s vs (Some k) v came) (λ s vs. within (gives_nothing (item_stored (own_types (facts_of facts)) (facts_of facts).fillers (world_of w) n s vs k v))) row)
    c.in_ok-came-in-Passed.ensures.row)
