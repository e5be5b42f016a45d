use Rattle.std.proofs.Common.{arith, get_or, sym, subst, ap, take, ◌∙◌}
use Rattle.std.specs.List.{AllZip}
use Rattle.type_builder.specs.Flat.{IsFlatType}
use Rattle.type_builder.proofs.Noted.{zip-more}
use Rattle.type_builder.proofs.flat.flats.Goals as goal

pub loop-t-preserved : goal.loop-t-preserved
loop-t-preserved c =
    subst (AllZip IsFlatType (take _ c.args.types.now)) (sym c.in_ok-push.ensures.items)
    (zip-more IsFlatType c.args.types.now c.loop-t.out.items c.loop-t.t-index c.t-item.result c.in_ok-other.other (grind (arith, c.loop-t-test.true, c.as_slice-t-items.ensures))
    (c.t-item.is ∙ ap (λ xs. get_or xs c.loop-t.t-index c.t-item.result) c.as_slice-t-items.ensures) c.loop-t.invariant c.in_ok-other.ensures)
