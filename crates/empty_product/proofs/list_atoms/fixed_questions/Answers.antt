use Rattle.std.proofs.Common.{ℕ, ◌≡◌, ◌↔◌, ◌<◌, [], map, length, Any, sym, subst, arith}
use Rattle.type_diagrams.specs.Conditions.{Condition, asks}
use Rattle.type_diagrams.specs.Members.{Fixes, item_of}
use Rattle.type_diagrams.proofs.AskedDiagrams.{then_all}
use Rattle.empty_product.specs.Lists.{AreAsked}
use Rattle.empty_product.proofs.ItemPlaces.{AreAsked-push}
use Rattle.empty_product.proofs.list_atoms.fixed_questions.Goals as goal

pub returns-in_err-items_question-clause-extends : goal.returns-in_err-items_question-clause-extends
returns-in_err-items_question-clause-extends c = then_all _ _ _ _ c.loop-place.invariant.0 c.items_question.ensures.extends

pub returns-in_err-push-clause-extends : goal.returns-in_err-push-clause-extends
returns-in_err-push-clause-extends c = then_all _ _ _ _ c.loop-place.invariant.0 c.items_question.ensures.extends

pub loop-place-preserved : goal.loop-place-preserved
loop-place-preserved c =
    let base : ℕ → Condition = λ place. asks (map (item_of c.args.env.now place) c.args.atoms.now) [] in
    let q = c.in_ok-items_question.field-0 in
    let items = c.in_ok-push.ensures.items in (
      then_all _ _ _ _ c.loop-place.invariant.0 c.items_question.ensures.extends,
      omega (arith, c.in_ok-push.ensures.len, c.loop-place.invariant.1),
      subst (AreAsked c.items_question.new.dia base) (sym items) (AreAsked-push c.loop-place.dia c.items_question.new.dia base c.loop-place.fixed.items c.loop-place.place q c.loop-place.invariant.1 c.items_question.ensures.extends.keeps c.loop-place.invariant.2 c.in_ok-items_question.ensures.made),
    )

pub returns-clause-count : goal.returns-clause-count
returns-clause-count c = λ place.
    let same : length c.loop-place.fixed.items ≡ c.longest_prefix-place-end.result = omega (arith, c.loop-place.invariant.1) in
    subst (λ n. (place < n) ↔ Any (Fixes c.args.env.now place) c.args.atoms.now) (sym same) (subst (λ e. (place < c.longest_prefix-place-end.result) ↔ Any (Fixes e place) c.args.atoms.now) c.defs.ensures.value (c.longest_prefix-place-end.ensures place))
