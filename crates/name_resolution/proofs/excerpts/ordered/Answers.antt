use Rattle.std.proofs.Common.{sym, subst}
use Rattle.name_resolution.specs.Faults.{AreNamed}
use Rattle.name_resolution.proofs.ExcerptSteps.{free-front, named-front}
use Rattle.name_resolution.proofs.excerpts.ordered.Goals as goal

pub in_order-requires : goal.in_order-requires
in_order-requires c =
    let chosen = c.args.chosen.items in
    subst AreNamed (sym c.deref-4.ensures.value)
    (named-front c.args.home chosen (free-front c.args.home chosen chosen _ _ c.in_ok-is_free.field-0 c.deref-2.ensures.value c.deref-3.ensures.value c.in_ok-is_free.ensures c.if-not-branch.false))
