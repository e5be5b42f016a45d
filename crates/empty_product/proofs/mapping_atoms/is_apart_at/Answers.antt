use Rattle.type_diagrams.specs.Members.{member_of}
use Rattle.type_diagrams.proofs.AskedDiagrams.{then_on}
use Rattle.empty_product.proofs.MappingQuestions.{apart-made}
use Rattle.empty_product.proofs.mapping_atoms.is_apart_at.Goals as goal

pub returns-in_err-common-clause-extends : goal.returns-in_err-common-clause-extends
returns-in_err-common-clause-extends c = then_on _ _ _ _ c.member_question.ensures.extends c.inter.ensures.extends

pub returns-clause-extends : goal.returns-clause-extends
returns-clause-extends c = then_on _ _ _ _ c.member_question.ensures.extends c.inter.ensures.extends

pub returns-clause-apart : goal.returns-clause-apart
returns-clause-apart c =
    let b = c.args.base.now in
    let e = apart-made c.args.dia.now c.member_question.new.dia c.inter.new.self c.in_ok-asked.asked b.question c.in_ok-common.common (member_of c.args.env.now b.key c.args.atom) c.is_nothing.result
    c.member_question.ensures.extends.keeps c.requires.base c.in_ok-asked.ensures.made c.in_ok-common.ensures.condition c.is_nothing.ensures in
    (λ h. (c.if-not-base.false, e.0 h), λ h. e.1 h.1)
