use Rattle.std.proofs.Common.{◌≡◌, length, ap, rules}
use Rattle.plain_run.specs.Held.{members_of, structure_of}
use Rattle.plain_run.proofs.Given.{if-ok}
use Rattle.store_tests.proofs.Tested.{list-tested}
use Rattle.store_tests.proofs.tests.tests_list.Goals as goal

pub returns-in-Items : goal.returns-in-Items
returns-in-Items c =
    let s = structure_of c.args.s.now in
    let vs = c.in-Items.items.items in
    let size : c.len.result ≡ length c.in-Items.items.items = search rules in
    if-ok _ _ c.tests_place.result (λ test h. list-tested c.args.facts.now c.args.world.now c.args.n s vs c.len.result c.args.place c.args.v.now test (ap members_of c.in-Items.is) size h) c.tests_place.ensures
