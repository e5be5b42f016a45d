use Rattle.check_work.specs.Views.{unit_of}
use Rattle.needs_of_units.proofs.Naming.{next-is}
use Rattle.needs_of_units.proofs.parameters.next_parameter.Goals as goal

pub returns : goal.returns
returns c = let found = c.in_ok-declared.ensures in
    next-is c.args.name.now c.args.assigned (unit_of c.args.unit.now) found.0 c.in_ok-declared.declared _ c.in_ok-slot.slot _ c.parameter.result c.as_slice-slots.ensures.value c.count-number.ensures
    c.in_ok-slot.ensures found.1 found.2 c.parameter.ensures
