use Rattle.check_words.proofs.Standing.{stands-beside}
use Rattle.check_work.specs.Views.{state_of}
use Rattle.check_work.proofs.Updating.{operator-taken}
use Rattle.check_work.proofs.updates.take_operator.Goals as goal

pub returns-in-Some-clause-stands : goal.returns-in-Some-clause-stands
returns-in-Some-clause-stands c = λ env h. stands-beside (state_of env c.args.work.now) h _ _ _ _

pub returns-in-Some-clause-comes : goal.returns-in-Some-clause-comes
returns-in-Some-clause-comes c = λ env. operator-taken (state_of env c.args.work.now) _ _ c.args.op c.in-Some.operator c.in_ok-ints.ensures c.in-Some.ensures
