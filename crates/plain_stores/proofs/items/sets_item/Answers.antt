use mir.Val.{to_z, of_z}
use Rattle.std.proofs.Common.{◌≡◌, ◌∙◌, Some, None, ap, rules, sym, w64}
use Rattle.op_model.specs.ProgramFacts.{own_types}
use Rattle.op_model.specs.Rows.{ListAt, place_of}
use Rattle.op_model.specs.Stores.{StoresAt}
use Rattle.plain_run.specs.ProgramFacts.{facts_of}
use Rattle.plain_run.specs.Held.{world_of}
use Rattle.plain_run.proofs.Given.{if-ok}
use Rattle.store_tests.specs.Questions.{StoreIsBeyond}
use Rattle.plain_stores.proofs.Tried.{tried-cause, tried-place}
use Rattle.plain_stores.proofs.items.sets_item.Goals as goal

pub returns-in-None-clause-row : goal.returns-in-None-clause-row
returns-in-None-clause-row c =
    let facts = c.args.facts.now in
    let w = c.args.world.now in
    let n = c.args.n in
    let v = c.args.v.now in
    let new = c.out_of_range.new.world in
    let same : to_z w64 (of_z w64 c.args.i) ≡ c.args.i = search rules in
    if-ok _ _ c.out_of_range.result
    (λ t h. tried-place facts w new n v None (place_of c.args.i) t (sym c.in-None.is ∙ (c.place_of.ensures ∙ ap place_of same)) (tried-cause (λ came. ListAt (world_of w) n (λ s vs. StoresAt (own_types (facts_of facts)) (facts_of facts).fillers (world_of w) n s vs None v came)) ⊥ (StoreIsBeyond facts w n None v) new t (λ x. absurd x) h))
    c.out_of_range.ensures.row

pub returns-in-Some-clause-row : goal.returns-in-Some-clause-row
returns-in-Some-clause-row c =
    let facts = c.args.facts.now in
    let w = c.args.world.now in
    let n = c.args.n in
    let v = c.args.v.now in
    let new = c.stores_at.new.world in
    let same : to_z w64 (of_z w64 c.args.i) ≡ c.args.i = search rules in
    if-ok _ _ c.stores_at.result (λ t h. tried-place facts w new n v (Some c.in-Some.place) (place_of c.args.i) t (sym c.in-Some.is ∙ (c.place_of.ensures ∙ ap place_of same)) h) c.stores_at.ensures.row
