use Rattle.std.proofs.Common.{Ok, OnOk, IfOk, Some, length, subst, sym}
use Rattle.checks.specs.Checks.{Comes}
use Rattle.check_words.specs.Stands.{SharedBelow, Stands}
use Rattle.check_words.specs.Words.{wants}
use Rattle.check_words.proofs.Standing.{shared-below}
use Rattle.check_work.specs.Views.{state_of}
use Rattle.check_work.proofs.Noting.{made-comes, made-on}
use Rattle.needs_of_actions.proofs.Futures.{worker-refused, worker-wanted}
use Rattle.needs_of_actions.proofs.PeersNamed.{result-has}
use Rattle.needs_of_actions.proofs.awaiting.await_worker.Goals as goal

pub returns-in-Ok-clause-stands : goal.returns-in-Ok-clause-stands
returns-in-Ok-clause-stands c = λ env h.
    let found = c.in-Ok.ensures.found in
    subst (λ r. OnOk r (Stands (state_of env c.want.new.work))) (sym c.lift.ensures)
    (made-on _ c.want.result
    (c.want.ensures.stands env
    (shared-below (length env) found.0 c.in-Ok.t found.2 (result-has (λ r. IfOk r (SharedBelow (length env))) c.args.work.now.site.results.items c.args.worker (Ok found.0) h.site found.1)) h))

pub returns-in-Ok-clause-comes : goal.returns-in-Ok-clause-comes
returns-in-Ok-clause-comes c = λ env.
    let found = c.in-Ok.ensures.found in
    let s = state_of env c.args.work.now in
    let new = state_of env c.want.new.work in
    worker-wanted s c.args.worker found.0 c.lift.result new found.1
    (subst (λ r. Comes (wants (Some found.0)) s r new) (sym c.lift.ensures) (made-comes (wants (Some found.0)) s new c.want.result (c.want.ensures.comes env found.0 found.2)))

pub returns-in-Err-clause-comes : goal.returns-in-Err-clause-comes
returns-in-Err-clause-comes c = λ env. worker-refused (state_of env c.args.work.now) c.args.worker c.in-Err.stop c.in-Err.ensures.refused
