use Rattle.std.proofs.Common.{refl, subst, sym}
use Rattle.type_model.specs.declared.basic.SemType.{Basic}
use Rattle.type_model.specs.Calls.{Without}
use Rattle.code_verifier.specs.declared.questions.OfTypes.{OfTypes}
use Rattle.code_verifier.specs.KindSets.{constant_set}
use Rattle.code_verifier.specs.Questions.{TypesLeadTo}
use Rattle.code_verifier.proofs.Leading.{fault-leads}
use Rattle.code_verifier.proofs.questions.ask_types.Goals as goal

pub returns-in-Below-clause-limit : goal.returns-in-Below-clause-limit
returns-in-Below-clause-limit g c =
    fault-leads g.T.Types.passes (g.T.Types.atoms c.args.types.now) (TypesLeadTo c.args.question) (Without c.in-Below.s.now c.in-Below.t.now)
    (subst (λ (q : OfTypes). TypesLeadTo q (Without c.in-Below.s.now c.in-Below.t.now)) (sym c.in-Below.is) refl) c.is_below.result c.is_below.ensures.limit

pub returns-in-HasConstant-clause-limit : goal.returns-in-HasConstant-clause-limit
returns-in-HasConstant-clause-limit g c =
    fault-leads g.T.Types.passes (g.T.Types.atoms c.args.types.now) (TypesLeadTo c.args.question) (Without (Basic (constant_set c.in-HasConstant.value.now)) c.in-HasConstant.t.now)
    (subst (λ (q : OfTypes). TypesLeadTo q (Without (Basic (constant_set c.in-HasConstant.value.now)) c.in-HasConstant.t.now)) (sym c.in-HasConstant.is) refl) c.has_constant.result c.has_constant.ensures.limit
