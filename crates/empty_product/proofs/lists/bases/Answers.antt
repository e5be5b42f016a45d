use Rattle.std.proofs.Common.{ℕ, sym, subst, arith}
use Rattle.type_diagrams.specs.Conditions.{Condition}
use Rattle.type_diagrams.proofs.AskedDiagrams.{then_all}
use Rattle.empty_product.specs.Lists.{AreAsked, item_asked}
use Rattle.empty_product.proofs.ItemPlaces.{AreAsked-push}
use Rattle.empty_product.proofs.lists.bases.Goals as goal

pub returns-in_err-base-clause-extends : goal.returns-in_err-base-clause-extends
returns-in_err-base-clause-extends c = then_all _ _ _ _ c.loop-place.invariant.0 c.base.ensures.extends

pub returns-in_err-push-clause-extends : goal.returns-in_err-push-clause-extends
returns-in_err-push-clause-extends c = then_all _ _ _ _ c.loop-place.invariant.0 c.base.ensures.extends

pub loop-place-preserved : goal.loop-place-preserved
loop-place-preserved c =
    let asked : ℕ → Condition = item_asked c.args.env.now c.args.wanted.now c.args.marked in
    let q = c.in_ok-base.field-0 in
    let qs = c.loop-place.bases.items in (
      then_all _ _ _ _ c.loop-place.invariant.0 c.base.ensures.extends,
      omega (arith, c.in_ok-push.ensures.len, c.loop-place.invariant.1),
      subst (AreAsked c.base.new.dia asked) (sym c.in_ok-push.ensures.items) (AreAsked-push c.loop-place.dia c.base.new.dia asked qs c.loop-place.place q c.loop-place.invariant.1 c.base.ensures.extends.keeps c.loop-place.invariant.2 c.in_ok-base.ensures.made),
    )

pub returns-in_err-base-2-clause-extends : goal.returns-in_err-base-2-clause-extends
returns-in_err-base-2-clause-extends c = then_all _ _ _ _ c.loop-place.invariant.0 c.base-2.ensures.extends

pub returns-in_err-push-2-clause-extends : goal.returns-in_err-push-2-clause-extends
returns-in_err-push-2-clause-extends c = then_all _ _ _ _ c.loop-place.invariant.0 c.base-2.ensures.extends

pub returns-clause-extends : goal.returns-clause-extends
returns-clause-extends c = then_all _ _ _ _ c.loop-place.invariant.0 c.base-2.ensures.extends

pub returns-clause-made : goal.returns-clause-made
returns-clause-made c =
    let asked : ℕ → Condition = item_asked c.args.env.now c.args.wanted.now c.args.marked in
    let q = c.in_ok-base-2.field-0 in
    let qs = c.loop-place.bases.items in
    subst (AreAsked c.base-2.new.dia asked) (sym c.in_ok-push-2.ensures.items) (AreAsked-push c.loop-place.dia c.base-2.new.dia asked qs c.args.prefix q (omega (arith, c.loop-place.invariant.1)) c.base-2.ensures.extends.keeps c.loop-place.invariant.2 c.in_ok-base-2.ensures.made)
