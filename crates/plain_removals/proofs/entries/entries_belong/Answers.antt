use Rattle.std.proofs.Common.{◌≡◌, Some, true, rules, subst}
use Rattle.std.specs.Prelude.{option_copied}
use Rattle.plain_tests.specs.Tells.{TellsIf}
use Rattle.plain_removals.proofs.Belonging.{entries-end, entry-more}
use Rattle.plain_removals.proofs.entries.entries_belong.Goals as goal

pub loop-e-preserved : goal.loop-e-preserved
loop-e-preserved c =
    let facts = c.args.facts.now in
    let h = c.args.heap.now in
    let e = c.e-item.result in
    let is : c.in_ok-belongs_if.field-0 ≡ Some true = search rules in
    let told = subst (TellsIf facts h e.1 (option_copied c.key_type.result)) is c.in_ok-belongs_if.ensures in
    entry-more facts h c.args.fields.now c.args.rest.now c.args.entries.now c.loop-e.e-index e c.loop-e-test.true c.e-item.is c.loop-e.invariant (subst (λ o. TellsIf facts h e.1 o (Some true)) c.key_type.ensures told)

pub returns : goal.returns
returns c =
    let met : c.has_required.result ≡ true = search rules in
    entries-end c.args.facts.now c.args.heap.now c.args.fields.now c.args.rest.now c.args.entries.now c.loop-e.e-index c.loop-e-test.false (c.has_required.ensures.0 met) c.loop-e.invariant
