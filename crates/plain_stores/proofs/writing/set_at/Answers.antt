use Rattle.std.proofs.Common.{◌≤◌, ◌∙◌, map, length, ap, arith}
use Rattle.plain_run.specs.Held.{structure_of}
use Rattle.plain_stores.specs.Changes.{changed_by, with_item}
use Rattle.plain_run.proofs.Given.{on-ok}
use Rattle.plain_stores.proofs.Changed.{changed-past, changed-there}
use Rattle.plain_stores.proofs.writing.set_at.Goals as goal

pub returns-then-at-len : goal.returns-then-at-len
returns-then-at-len c =
    let held = c.args.structures.now in
    let far : length held ≤ c.args.n = grind (arith, c.if-at-len.true, c.len.ensures.len) in
    changed-past structure_of (changed_by (with_item c.args.place c.args.gap.items c.args.v)) held c.args.n far

pub returns : goal.returns
returns c =
    let held = c.args.structures.now in
    on-ok _ _ c.put.result (λ e. ap (map structure_of) (e ∙ c.take-s.ensures.others _) ∙ changed-there structure_of (changed_by (with_item c.args.place c.args.gap.items c.args.v)) held c.args.n c.take-s.result _ c.take-s.ensures.taken c.in_ok-set_in.ensures) c.put.ensures.put
