use Rattle.std.proofs.Common.{arith, length, map, refl}
use Rattle.std.proofs.lemmas.Option.{slice_get_read}
use Rattle.expr_needs.specs.ExprTable.{read_expr}
use Rattle.check_constructors.proofs.FittingChoices.{all-fit, fit-more, not-all, seen-at}
use Rattle.check_constructors.proofs.fitting.literals_fit.Goals as goal

pub loop-place-preserved : goal.loop-place-preserved
loop-place-preserved c =
    let place = c.loop-place.place in
    let at = seen-at read_expr (λ i. i.literal) c.args.items.now place c.index-items-place.result
    (slice_get_read c.args.items.now (length c.args.items.now) place c.index-items-place.result refl (grind (arith, c.loop-place-test.true)) c.index-items-place.is) in
    fit-more c.args.defs.now c.args.fixed.now c.args.rest.now (map (λ i. i.literal) (map read_expr c.args.items.now)) place _ at c.item_fits.result c.item_fits.ensures c.if-not-item_fits.false c.loop-place.invariant

pub returns-then-not-item_fits : goal.returns-then-not-item_fits
returns-then-not-item_fits c =
    let place = c.loop-place.place in
    let at = seen-at read_expr (λ i. i.literal) c.args.items.now place c.index-items-place.result
    (slice_get_read c.args.items.now (length c.args.items.now) place c.index-items-place.result refl (grind (arith, c.loop-place-test.true)) c.index-items-place.is) in
    not-all c.args.defs.now c.args.fixed.now c.args.rest.now (map (λ i. i.literal) (map read_expr c.args.items.now)) place _ at c.item_fits.result c.item_fits.ensures c.if-not-item_fits.true

pub returns : goal.returns
returns c = all-fit c.args.defs.now c.args.fixed.now c.args.rest.now read_expr (λ i. i.literal) c.args.items.now c.loop-place.place (omega (arith, c.loop-place-test.false)) c.loop-place.invariant
