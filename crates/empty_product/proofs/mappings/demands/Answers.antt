use Rattle.std.proofs.Common.{◌↔◌, ◌+◌, IsTrue, take, sym, subst, arith}
use Rattle.std.proofs.lemmas.List.{take_all}
use Rattle.std.specs.List.{AllZip}
use Rattle.type_diagrams.specs.Members.{Requires}
use Rattle.type_diagrams.proofs.AskedDiagrams.{then_all}
use Rattle.empty_product.specs.declared.slots.Demand.{Demand}
use Rattle.empty_product.specs.Mappings.{IsDemandOf}
use Rattle.empty_product.proofs.MappingBodies.{demand-keeps, zip-more}
use Rattle.empty_product.proofs.mappings.demands.Goals as goal

pub returns-in_err-question-clause-extends : goal.returns-in_err-question-clause-extends
returns-in_err-question-clause-extends c = then_all _ _ _ _ c.loop-key.invariant.0 c.member_question.ensures.extends

pub returns-in_err-push-clause-extends : goal.returns-in_err-push-clause-extends
returns-in_err-push-clause-extends c = then_all _ _ _ _ c.loop-key.invariant.0 c.member_question.ensures.extends

pub loop-key-preserved : goal.loop-key-preserved
loop-key-preserved c =
    let env = c.args.env.now in
    let a = c.args.atom in
    let keys = c.args.keys.now in
    let key = c.key-item.result in
    let i = c.loop-key.key-index in
    let new = c.member_question.new.dia in
    let d : Demand = record { question = c.in_ok-question.question; required = c.is_required-required.result } in
    let is : IsDemandOf env new a key d = record {
      question = c.in_ok-question.ensures.made;
      required = subst (λ e. IsTrue c.is_required-required.result ↔ Requires e key a) c.defs.ensures.value c.is_required-required.ensures;
    } in (
      then_all _ _ _ _ c.loop-key.invariant.0 c.member_question.ensures.extends,
      subst (AllZip (IsDemandOf env new a) (take (i + 1) keys)) (sym c.in_ok-push.ensures.items)
          (zip-more (IsDemandOf env c.loop-key.dia a) (IsDemandOf env new a) (demand-keeps env c.loop-key.dia new c.member_question.ensures.extends.keeps a) keys c.loop-key.demands.items i key d (omega arith)
          c.loop-key.invariant.1 (subst (λ k. IsDemandOf env new a k d) c.key-item.is is)),
    )

pub returns-clause-demands : goal.returns-clause-demands
returns-clause-demands c =
    subst (λ xs. AllZip (IsDemandOf c.args.env.now c.loop-key.dia c.args.atom) xs c.loop-key.demands.items) (take_all c.loop-key.key-index c.args.keys.now (omega arith)) c.loop-key.invariant.1
