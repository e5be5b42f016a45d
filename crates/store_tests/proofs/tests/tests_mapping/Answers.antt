use Rattle.std.proofs.Common.{ap}
use Rattle.plain_run.specs.Held.{members_of, structure_of}
use Rattle.plain_run.proofs.Given.{if-ok}
use Rattle.store_tests.proofs.Tested.{mapping-tested}
use Rattle.store_tests.proofs.tests.tests_mapping.Goals as goal

pub returns-in-Entries : goal.returns-in-Entries
returns-in-Entries c =
    if-ok _ _ c.tests_key.result (λ test h. mapping-tested c.args.facts.now c.args.world.now c.args.n (structure_of c.args.s.now) _ c.args.key.now c.args.v.now test (ap members_of c.in-Entries.is) h) c.tests_key.ensures
