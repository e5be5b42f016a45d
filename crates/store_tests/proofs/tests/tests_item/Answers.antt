use Rattle.std.proofs.Common.{length, refl, rules}
use Rattle.std.proofs.lemmas.Option.{slice_get_read}
use Rattle.plain_run.specs.Held.{world_of}
use Rattle.plain_run.proofs.Given.{if-ok}
use Rattle.store_tests.specs.Tests.{ListComes, ListIsBeyond, ListRow}
use Rattle.store_tests.proofs.Tested.{tested-there}
use Rattle.store_tests.proofs.tests.tests_item.Goals as goal

pub returns-in-Some : goal.returns-in-Some
returns-in-Some c =
    let facts = c.args.facts.now in
    let w = c.args.world.now in
    let n = c.args.n in
    let k = c.args.place in
    let v = c.args.v.now in
    let held = c.args.world.now.heap.structures in
    if-ok _ _ c.tests_list.result
    (λ test h. tested-there w n (λ s. ListRow facts w n s k v) (λ s. ListComes facts w n s k v) (λ s. ListIsBeyond facts w s k v) (world_of w) test c.in-Some.s.now (slice_get_read held (length held) n c.in-Some.s.now refl (search rules) (search rules)) h)
    c.tests_list.ensures
