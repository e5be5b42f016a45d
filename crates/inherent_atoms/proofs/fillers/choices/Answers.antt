use Rattle.std.proofs.Common.{arith}
use Rattle.inherent_atoms.specs.Fillers.{choice_of}
use Rattle.inherent_atoms.proofs.Noting.{notes-next}
use Rattle.inherent_atoms.proofs.fillers.choices.Goals as goal

pub loop-t-preserved : goal.loop-t-preserved
loop-t-preserved c =
    notes-next choice_of c.args.types.now c.loop-t.t-index c.t-item.result _ _ _ (grind (arith, c.loop-t-test.true)) c.t-item.is c.loop-t.invariant c.in_ok-choice.ensures
