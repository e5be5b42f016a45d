use Rattle.std.proofs.Common.{None}
use Rattle.check_work.specs.Views.{state_of}
use Rattle.needs_of_structures.proofs.Opening.{computed-comes, keyed-stands, on-then}
use Rattle.needs_of_structures.proofs.keys.compute_key.Goals as goal

pub returns-clause-stands : goal.returns-clause-stands
returns-clause-stands c = λ env h. on-then _ _ c.add_key.result (λ g. keyed-stands (state_of env c.args.work.now) None _ g h) c.add_key.ensures

pub returns-clause-comes : goal.returns-clause-comes
returns-clause-comes c = λ env. on-then _ _ c.add_key.result (λ g. computed-comes (state_of env c.args.work.now) _ g) c.add_key.ensures
