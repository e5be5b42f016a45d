use Rattle.std.proofs.Common.{refl}
use Rattle.check_work.specs.Views.{unit_of}
use Rattle.needs_of_functions.proofs.AtomsAdded.{atoms-are}
use Rattle.needs_of_functions.proofs.own_atoms.own_defs.Goals as goal

pub returns : goal.returns
returns c =
    atoms-are c.args.isolated (unit_of c.args.unit.now) c.args.first c.in_ok-list.list _ c.in_ok-result.result c.in_ok-future.future _ _ _ _ c.in_ok-list.ensures refl c.in_ok-result.ensures
    c.in_ok-future.ensures c.new-defs.ensures.items c.in_ok-push.ensures.items c.in_ok-push-2.ensures.items c.in_ok-push-3.ensures.items
