use Rattle.std.proofs.Common.{sym, subst}
use Rattle.needs.specs.Needs.{Runs}
use Rattle.needs.proofs.Running.{runs-both}
use Rattle.expr_needs.specs.ActionTable.{action_needs, checked_needs}
use Rattle.expr_needs.proofs.actions.+actions.Goals as goal

pub checked-returns-in-Wanted-clause-met : goal.checked-returns-in-Wanted-clause-met
checked-returns-in-Wanted-clause-met g t c =
    subst (λ e. Runs g.M.MeetsExprs.meaning (checked_needs (action_needs c.args.a.now) e c.args.at) (g.M.MeetsExprs.going c.args.work.now) (g.M.MeetsExprs.going c.checks.new.self))
    (sym c.in-Wanted.is)
    (runs-both _ _ _ _ _ _ (runs-both _ _ _ _ _ _ c.wants_error_too.ensures.met
    (runs-both _ _ _ _ _ _ c.action.ensures.met c.drops_want.ensures.met)) c.checks.ensures.met)
