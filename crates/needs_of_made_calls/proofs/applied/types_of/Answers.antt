use Rattle.std.proofs.Common.{◌+◌, ◌∙◌, ap, arith, subst, sym, take}
use Rattle.descriptors.specs.Described.{IsCopy}
use Rattle.needs_of_made_calls.specs.Applied.{AreCopied}
use Rattle.needs_of_made_calls.proofs.Applying.{next-copied}
use Rattle.needs_of_made_calls.proofs.applied.types_of.Goals as goal

pub loop-part-preserved : goal.loop-part-preserved
loop-part-preserved c =
    subst (AreCopied (take (c.loop-part.part-index + 1) c.args.parts.now)) (sym c.in_ok-push.ensures.items)
    (next-copied c.args.parts.now c.loop-part.part-index c.part-item.result c.loop-part.found.items c.in_ok-copy.field-0 (omega arith) c.part-item.is c.loop-part.invariant
    (subst (λ u. IsCopy u c.in_ok-copy.field-0) (c.deref.ensures ∙ ap (λ t. t.value) c.ty.ensures) c.in_ok-copy.ensures))
