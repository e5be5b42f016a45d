use Rattle.std.proofs.Common.{subst}
use Rattle.plain_run.proofs.Given.{if-ok}
use Rattle.plain_removals.specs.Removals.{IsMappingRemoval}
use Rattle.plain_removals.proofs.Calling.{entry-removed}
use Rattle.plain_removals.proofs.calls.removes_entry.Goals as goal

pub returns-in-Some-clause-row : goal.returns-in-Some-clause-row
returns-in-Some-clause-row c =
    let facts = c.args.facts.now in
    let old = c.args.world.now in
    let is = subst (IsMappingRemoval facts old.heap c.args.n c.args.key.now) c.in-Some.is c.in_ok-mapping_removal.ensures in
    if-ok _ _ c.done.result (λ tried. entry-removed facts old c.done.new.world c.args.n c.args.key.now c.in-Some.removal tried is) c.done.ensures.row
