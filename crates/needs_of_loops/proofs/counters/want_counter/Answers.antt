use Rattle.check_work.specs.Views.{state_of}
use Rattle.needs_of_loops.proofs.ItemSteps.{wanted-stands, wants-counter-comes}
use Rattle.needs_of_loops.proofs.counters.want_counter.Goals as goal

pub returns-clause-stands : goal.returns-clause-stands
returns-clause-stands c = λ env own h. wanted-stands (state_of env c.args.work.now) c.in_ok-int.int _ c.in_ok-push.ensures.items (c.in_ok-int.ensures.defined env own) h

pub returns-clause-comes : goal.returns-clause-comes
returns-clause-comes c = λ env own. wants-counter-comes (state_of env c.args.work.now) c.in_ok-int.int _ c.in_ok-push.ensures.items (c.in_ok-int.ensures.is env own)
