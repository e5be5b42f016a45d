use Rattle.std.proofs.Common.{arith, map}
use Rattle.lower_expr.specs.Drafts.{step_of}
use Rattle.package_units.specs.Held.{tree_of}
use Rattle.inherent_atoms.specs.Named.{atoms_named, use_at}
use Rattle.inherent_atoms.proofs.Noting.{mapped-next}
use Rattle.inherent_atoms.proofs.steps.all_steps.Goals as goal

pub loop-s-preserved : goal.loop-s-preserved
loop-s-preserved c =
    mapped-next step_of (λ s. atoms_named (map tree_of c.args.units.now) (use_at s)) c.args.steps.now c.loop-s.s-index c.s-item.result _ _ _ (grind (arith, c.loop-s-test.true)) c.s-item.is c.loop-s.invariant c.in_ok-step.ensures
