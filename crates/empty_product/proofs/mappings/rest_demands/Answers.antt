use Rattle.std.proofs.Common.{◌+◌, get_or, take, refl, sym, subst, arith}
use Rattle.std.proofs.lemmas.List.{take_all}
use Rattle.std.specs.List.{AllZip}
use Rattle.type_diagrams.proofs.AskedDiagrams.{then_all}
use Rattle.empty_product.specs.declared.further.RestDemand.{RestDemand}
use Rattle.empty_product.specs.Mappings.{IsRestDemandOf}
use Rattle.empty_product.proofs.MappingBodies.{rest-keeps, zip-more}
use Rattle.empty_product.proofs.mappings.rest_demands.Goals as goal

pub returns-in_err-question-clause-extends : goal.returns-in_err-question-clause-extends
returns-in_err-question-clause-extends c = then_all _ _ _ _ c.loop-atom.invariant.0 c.member_question.ensures.extends

pub returns-in_err-push-clause-extends : goal.returns-in_err-push-clause-extends
returns-in_err-push-clause-extends c = then_all _ _ _ _ c.loop-atom.invariant.0 c.member_question.ensures.extends

pub loop-atom-preserved : goal.loop-atom-preserved
loop-atom-preserved c =
    let env = c.args.env.now in
    let fresh = c.args.fresh.now in
    let atoms = c.args.atoms.now in
    let i = c.loop-atom.atom-index in
    let new = c.member_question.new.dia in
    let d : RestDemand = record { atom = get_or atoms i 0; question = c.in_ok-question.question } in (
      then_all _ _ _ _ c.loop-atom.invariant.0 c.member_question.ensures.extends,
      subst (AllZip (IsRestDemandOf env new fresh) (take (i + 1) atoms)) (sym c.in_ok-push.ensures.items)
          (zip-more (IsRestDemandOf env c.loop-atom.dia fresh) (IsRestDemandOf env new fresh) (rest-keeps env c.loop-atom.dia new c.member_question.ensures.extends.keeps fresh) atoms c.loop-atom.demands.items i 0 d (omega arith)
          c.loop-atom.invariant.1 (record { atom = refl; question = c.in_ok-question.ensures.made })),
    )

pub returns-clause-demands : goal.returns-clause-demands
returns-clause-demands c =
    subst (λ xs. AllZip (IsRestDemandOf c.args.env.now c.loop-atom.dia c.args.fresh.now) xs c.loop-atom.demands.items) (take_all c.loop-atom.atom-index c.args.atoms.now (omega arith)) c.loop-atom.invariant.1
