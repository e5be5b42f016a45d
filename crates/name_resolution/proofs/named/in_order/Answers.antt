use Rattle.std.proofs.Common.{◌∙◌, ap, map, subst, sym, IfNone}
use Rattle.graphs.specs.Ordering.{HasCycle, IsInside}
use Rattle.name_resolution.proofs.Inside.{parts-inside}
use Rattle.name_resolution.proofs.named.in_order.Goals as goal

pub parts_first-requires : goal.parts_first-requires
parts_first-requires c = subst IsInside (sym (ap (map (λ v. v.items)) c.deref.ensures.value ∙ c.in_ok-parts.ensures)) (parts-inside c.args.outlines.now)

pub unreachable-requires : goal.unreachable-requires
unreachable-requires c =
    let cycle = subst (λ found. IfNone found (HasCycle (map (λ v. v.items) c.deref.result.now))) c.in-None.is c.in_ok-order.ensures.cyclic in
    let own = subst HasCycle (ap (map (λ v. v.items)) c.deref.ensures.value ∙ c.in_ok-parts.ensures) cycle in
    c.requires.acyclic own.0 own.1
