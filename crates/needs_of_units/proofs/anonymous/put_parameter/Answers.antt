use Rattle.std.proofs.Common.{arith}
use Rattle.check_work.specs.Views.{unit_of}
use Rattle.needs_of_units.proofs.Beginning.{parameter-put}
use Rattle.needs_of_units.proofs.anonymous.put_parameter.Goals as goal

pub returns : goal.returns
returns c =
    parameter-put (unit_of c.args.unit.now) _ c.args.name.now c.args.t c.in_ok-declared.declared c.in_ok-slot.slot _ c.parameter.result _ c.in_ok-slot.ensures.unit c.in_ok-slot.ensures.slot
    c.in_ok-declared.ensures (omega arith) c.parameter.ensures c.in_ok-declare.ensures
