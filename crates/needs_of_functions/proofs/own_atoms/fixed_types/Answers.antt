use Rattle.check_work.specs.Views.{unit_of}
use Rattle.needs_of_functions.proofs.AtomsAdded.{with-rest, without-rest}
use Rattle.needs_of_functions.proofs.own_atoms.fixed_types.Goals as goal

pub returns-in-Some : goal.returns-in-Some
returns-in-Some c = with-rest (unit_of c.args.unit.now) _ _ _ _ c.in-Some.is c.as_slice-slots.ensures.value c.first-params.ensures c.without_last.ensures

pub returns-in-None : goal.returns-in-None
returns-in-None c = without-rest (unit_of c.args.unit.now) _ _ c.in-None.is c.as_slice-slots.ensures.value c.first-params.ensures
