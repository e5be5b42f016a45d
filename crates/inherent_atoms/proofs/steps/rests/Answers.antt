use Rattle.std.proofs.Common.{arith}
use Rattle.std.specs.Prelude.{option_to_list}
use Rattle.package_units.specs.Held.{tree_of}
use Rattle.inherent_atoms.proofs.Noting.{mapped-next}
use Rattle.inherent_atoms.proofs.steps.rests.Goals as goal

pub loop-u-preserved : goal.loop-u-preserved
loop-u-preserved c =
    mapped-next tree_of (λ u. option_to_list u.unit.rest) c.args.units.now c.loop-u.u-index c.u-item.result _ _ _ (grind (arith, c.loop-u-test.true)) c.u-item.is c.loop-u.invariant c.in_ok-note_if.ensures
