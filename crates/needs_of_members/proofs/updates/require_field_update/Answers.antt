use Rattle.checks.proofs.Steps.{stops}
use Rattle.check_words.proofs.Coming.{next}
use Rattle.check_work.specs.Views.{state_of}
use Rattle.needs_of_members.proofs.Answered.{lifted-comes, lifted-on}
use Rattle.needs_of_members.proofs.updates.require_field_update.Goals as goal

pub returns-in-Ok-clause-stands : goal.returns-in-Ok-clause-stands
returns-in-Ok-clause-stands g c = lifted-on c.update_field.result _ c.lift.ensures _ (c.update_field.ensures.stands (g.T.Types.atoms c.args.types.now) c.in-Ok.ensures.stands)

pub returns-in-Ok-clause-comes : goal.returns-in-Ok-clause-comes
returns-in-Ok-clause-comes g c =
    let new = g.T.Types.atoms c.result_fits.new.types in
    next _ _ _ _ _ c.in-Ok.read (state_of new c.result_fits.new.work) c.in-Ok.ensures.comes
    (lifted-comes c.update_field.result _ c.lift.ensures _ (state_of new c.result_fits.new.work) _ (c.update_field.ensures.comes new))

pub returns-in-Err-clause-comes : goal.returns-in-Err-clause-comes
returns-in-Err-clause-comes g c = stops _ _ (state_of (g.T.Types.atoms c.args.types.now) c.args.work.now) _ c.in-Err.stop c.in-Err.ensures.comes
