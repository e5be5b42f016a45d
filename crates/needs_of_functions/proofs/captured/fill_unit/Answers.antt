use Rattle.std.proofs.Common.{ap, map}
use Rattle.check_work.specs.Views.{unit_of}
use Rattle.needs_of_units.specs.Captures.{capture_of}
use Rattle.needs_of_functions.proofs.ValuesBegun.{value-filled}
use Rattle.needs_of_functions.proofs.captured.fill_unit.Goals as goal

pub returns : goal.returns
returns c = λ t same.
    value-filled _ _ c.args.uses.now _ _ c.new-none.result.items t c.args.gives (unit_of c.args.unit.now) (unit_of c.capture_all.new.unit) c.as_slice-variables.ensures.value
    c.in_ok-found.ensures (ap (map capture_of) c.as_slice-all.ensures.value) c.new-none.ensures.items c.in_ok-capture_all.ensures same
