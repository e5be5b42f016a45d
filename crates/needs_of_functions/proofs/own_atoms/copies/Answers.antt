use Rattle.std.proofs.Common.{arith, subst}
use Rattle.descriptors.specs.Described.{IsCopy}
use Rattle.needs_of_functions.proofs.AtomsAdded.{IsCopyOf}
use Rattle.needs_of_functions.proofs.Zipping.{zip-more}
use Rattle.needs_of_functions.proofs.own_atoms.copies.Goals as goal

pub loop-t-preserved : goal.loop-t-preserved
loop-t-preserved c =
    zip-more IsCopyOf c.args.types.now c.loop-t.made.items _ c.loop-t.t-index c.t-item.result c.in_ok-copy.field-0 (omega arith) c.t-item.is c.loop-t.invariant
    (subst (λ t. IsCopy t c.in_ok-copy.field-0) c.deref.ensures c.in_ok-copy.ensures) c.in_ok-push.ensures.items
