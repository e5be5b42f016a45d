use Rattle.std.proofs.Common.{subst}
use Rattle.plain_run.proofs.Given.{if-ok}
use Rattle.plain_removals.specs.Removals.{IsListRemoval}
use Rattle.plain_removals.proofs.Calling.{item-removed}
use Rattle.plain_removals.proofs.calls.removes_item.Goals as goal

pub returns-in-Some-clause-row : goal.returns-in-Some-clause-row
returns-in-Some-clause-row c =
    let facts = c.args.facts.now in
    let old = c.args.world.now in
    let is = subst (IsListRemoval facts old.heap c.args.n c.args.place) c.in-Some.is c.in_ok-list_removal.ensures in
    if-ok _ _ c.done.result (λ tried. item-removed facts old c.done.new.world c.args.n c.args.place c.in-Some.removal tried is) c.done.ensures.row
