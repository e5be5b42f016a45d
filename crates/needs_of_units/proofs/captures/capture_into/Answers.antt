use Rattle.check_work.specs.Views.{unit_of}
use Rattle.needs_of_units.proofs.Capturing.{captured-so}
use Rattle.needs_of_units.proofs.captures.capture_into.Goals as goal

pub returns : goal.returns
returns c =
    captured-so c.args.in_worker _ (unit_of c.args.unit.now) _ _ _ _ _ _ _ c.in_ok-inner_type.ensures c.in_ok-slot.ensures.slot c.in_ok-slot.ensures.unit c.in_ok-variable.ensures
    c.in_ok-captured_as.ensures c.in_ok-push.ensures.items c.in_ok-declare.ensures
