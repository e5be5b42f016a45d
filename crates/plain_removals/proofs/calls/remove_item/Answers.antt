use mir.Val.{to_z, of_z}
use Rattle.std.proofs.Common.{◌≡◌, rules, subst, w64}
use Rattle.std.specs.Prelude.{IfOk}
use Rattle.plain_run.specs.Held.{world_of}
use Rattle.plain_run.proofs.Given.{if-ok}
use Rattle.plain_structures.specs.Rows.{IsTried}
use Rattle.plain_removals.specs.declared.place.Place.TheVariants.{At}
use Rattle.plain_removals.specs.Removals.{IsItemBeyond, RemovesItem}
use Rattle.plain_removals.proofs.Calling.{remove-item-called, remove-item-stuck}
use Rattle.plain_removals.proofs.calls.remove_item.Goals as goal

pub returns-in-None-clause-row : goal.returns-in-None-clause-row
returns-in-None-clause-row c = remove-item-stuck c.args.facts.now c.args.operands.now c.args.world.now c.args.world.now c.in-None.ensures

pub returns-in-Some-clause-row : goal.returns-in-Some-clause-row
returns-in-Some-clause-row c =
    let facts = c.args.facts.now in
    let old = c.args.world.now in
    let new = c.removes_item.new.world in
    let n = c.in-Some.n in
    let same : to_z w64 (of_z w64 c.in-Some.i) ≡ c.in-Some.i = search rules in
    let row = subst (λ i. IfOk c.removes_item.result (IsTried (RemovesItem facts (world_of old) n (At i)) (IsItemBeyond facts old n (At i)) new)) same c.removes_item.ensures.row in
    if-ok _ _ c.removes_item.result (λ tried. remove-item-called facts c.args.operands.now old new n tried c.in-Some.i c.in-Some.ensures) row
