use Rattle.std.proofs.Common.{◌≡◌, Some, rules}
use Rattle.std.specs.Prelude.{option_copied}
use Rattle.plain_run.proofs.Given.{if-ok}
use Rattle.plain_tests.proofs.Telling.{told_there}
use Rattle.plain_tests.proofs.belonging.belongs_if.Goals as goal

pub returns-in-Some : goal.returns-in-Some
returns-in-Some c =
    let there : option_copied c.args.t ≡ Some c.in-Some.t.now = search rules in
    if-ok _ _ c.belongs.result (λ told is. told_there c.args.facts.now c.args.heap.now c.args.v.now c.in-Some.t.now (option_copied c.args.t) told there is) c.belongs.ensures
