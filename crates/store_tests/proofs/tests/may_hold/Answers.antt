use Rattle.std.proofs.Common.{◌≡◌, true, rules}
use Rattle.std.specs.Prelude.{option_copied}
use Rattle.plain_run.proofs.Given.{if-ok}
use Rattle.store_tests.proofs.Tested.{mutable-told}
use Rattle.store_tests.proofs.tests.may_hold.Goals as goal

pub returns : goal.returns
returns c =
    let mutable : c.args.mutable ≡ true = search rules in
    if-ok _ _ c.belongs_if.result (λ told is. mutable-told c.args.facts.now c.args.heap.now c.args.mutable (option_copied c.args.wanted) c.args.v.now told mutable is) c.belongs_if.ensures
