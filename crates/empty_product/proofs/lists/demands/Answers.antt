use Rattle.std.proofs.Common.{◌+◌, false, refl, sym, subst}
use Rattle.type_diagrams.proofs.AskedDiagrams.{then_all}
use Rattle.empty_product.specs.Lists.{IsDemandOf}
use Rattle.empty_product.proofs.DemandLists.{IsDemandOf-push}
use Rattle.empty_product.proofs.lists.demands.Goals as goal

pub returns-in_err-question-clause-extends : goal.returns-in_err-question-clause-extends
returns-in_err-question-clause-extends c = then_all _ _ _ _ c.loop-place.invariant.0 c.item_question.ensures.extends

pub returns-in_err-push-clause-extends : goal.returns-in_err-push-clause-extends
returns-in_err-push-clause-extends c = then_all _ _ _ _ c.loop-place.invariant.0 c.item_question.ensures.extends

pub loop-place-preserved : goal.loop-place-preserved
loop-place-preserved c =
    let env = c.args.env.now in
    let place = c.loop-place.place in
    let q = c.in_ok-question.question in (
      then_all _ _ _ _ c.loop-place.invariant.0 c.item_question.ensures.extends,
      subst (IsDemandOf env c.item_question.new.dia (place + 1) c.args.atom) (sym c.in_ok-push.ensures.items)
          (IsDemandOf-push env c.loop-place.dia c.item_question.new.dia place c.args.atom c.loop-place.demands.items (record { question = q; required = false }) c.item_question.ensures.extends.keeps c.loop-place.invariant.1 c.in_ok-question.ensures.made refl),
    )
