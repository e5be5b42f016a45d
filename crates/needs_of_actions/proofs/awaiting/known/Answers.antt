use Rattle.std.proofs.Common.{IfErr, IfOk, slice_get, subst, sym}
use Rattle.needs_of_actions.specs.Failing.{IsToldOf}
use Rattle.needs_of_actions.specs.Futures.{IsResultOf}
use Rattle.needs_of_actions.proofs.Futures.{result-is}
use Rattle.needs_of_actions.proofs.Lifting.{lifted-err}
use Rattle.needs_of_actions.proofs.awaiting.known.Goals as goal

pub returns-in-Ok-clause-found : goal.returns-in-Ok-clause-found
returns-in-Ok-clause-found c =
    subst (λ r. IfOk r (IsResultOf (slice_get c.args.site.now.results.items c.args.worker))) (sym c.lift.ensures)
    (result-is (slice_get c.args.site.now.results.items c.args.worker) c.in-Ok.t.now c.shared.result c.in-Ok.ensures.found c.shared.ensures)

pub returns-in-Ok-clause-refused : goal.returns-in-Ok-clause-refused
returns-in-Ok-clause-refused c =
    subst (λ r. IfErr r (IsToldOf (slice_get c.args.site.now.results.items c.args.worker))) (sym c.lift.ensures)
    (lifted-err (IsToldOf (slice_get c.args.site.now.results.items c.args.worker)) c.shared.result tt)
