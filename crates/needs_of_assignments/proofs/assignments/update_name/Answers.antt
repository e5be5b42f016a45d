use Rattle.std.proofs.Common.{OnOk, subst, sym}
use Rattle.checks.specs.Checks.{Comes}
use Rattle.checks.proofs.Steps.{stops}
use Rattle.check_words.specs.Stands.{Stands}
use Rattle.check_words.specs.Statements.{updates_name}
use Rattle.check_words.proofs.Coming.{next}
use Rattle.check_work.specs.Views.{state_of}
use Rattle.check_work.proofs.Noting.{made-comes, made-on}
use Rattle.needs_of_assignments.proofs.assignments.update_name.Goals as goal

pub returns-in-Ok-clause-stands : goal.returns-in-Ok-clause-stands
returns-in-Ok-clause-stands g c =
    subst (λ r. OnOk r (Stands (state_of (g.T.Types.atoms c.args.types.now) c.store.new.work))) (sym c.lift.ensures) (made-on _ c.store.result (c.store.ensures.stands (g.T.Types.atoms c.args.types.now) c.in-Ok.ensures.stands))

pub returns-in-Ok-clause-comes : goal.returns-in-Ok-clause-comes
returns-in-Ok-clause-comes g c =
    subst (λ r. Comes (updates_name g.T.Types.passes c.args.names.now c.args.update.name.now c.args.update.op c.args.update.at) (state_of (g.T.Types.atoms c.args.types.now) c.args.work.now) r (state_of (g.T.Types.atoms c.result_fits.new.types) c.store.new.work))
    (sym c.lift.ensures)
    (next _ _ _ _ _ c.in-Ok.read _ c.in-Ok.ensures.comes (made-comes _ _ _ c.store.result (c.store.ensures.comes (g.T.Types.atoms c.result_fits.new.types))))

pub returns-in-Err-clause-comes : goal.returns-in-Err-clause-comes
returns-in-Err-clause-comes g c = stops _ _ _ _ c.in-Err.stop c.in-Err.ensures.comes
