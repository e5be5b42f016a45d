use Rattle.check_words.specs.State.{OfValue}
use Rattle.check_work.specs.Views.{state_of}
use Rattle.needs_of_calls.proofs.Calling.{call-opened, opened-stands}
use Rattle.needs_of_calls.proofs.callees.call_value.Goals as goal

pub returns-clause-stands : goal.returns-clause-stands
returns-clause-stands c = λ env h. opened-stands (state_of env c.args.work.now) h OfValue _ tt c.in_ok-open.ensures

pub returns-clause-comes : goal.returns-clause-comes
returns-clause-comes c = λ env. call-opened (state_of env c.args.work.now) OfValue _ c.in_ok-open.ensures
