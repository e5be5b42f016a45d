use Rattle.std.proofs.Common.{[], ◌∷◌, map}
use Rattle.type_diagrams.specs.Conditions.{and_of, asks}
use Rattle.type_diagrams.specs.Members.{member_of}
use Rattle.type_diagrams.specs.Tables.{condition}
use Rattle.type_diagrams.proofs.AskedDiagrams.{then_all, then_on}
use Rattle.empty_product.proofs.MappingQuestions.{apart-made}
use Rattle.empty_product.proofs.Nothing.{asks_one_before, nothing-along}
use Rattle.empty_product.proofs.mapping_atoms.is_apart_by.Goals as goal

pub returns-in_err-asked-clause-extends : goal.returns-in_err-asked-clause-extends
returns-in_err-asked-clause-extends c = then_all _ _ _ _ c.members_question.ensures.extends c.member_question.ensures.extends

pub returns-in_err-common-clause-extends : goal.returns-in_err-common-clause-extends
returns-in_err-common-clause-extends c = then_on _ _ _ _ (then_all _ _ _ _ c.members_question.ensures.extends c.member_question.ensures.extends) c.inter.ensures.extends

pub returns-clause-extends : goal.returns-clause-extends
returns-clause-extends c = then_on _ _ _ _ (then_all _ _ _ _ c.members_question.ensures.extends c.member_question.ensures.extends) c.inter.ensures.extends

pub returns-clause-apart : goal.returns-clause-apart
returns-clause-apart c =
    let env = c.args.env.now in
    let key = c.args.field.now.name in
    let a = c.args.atom in
    let q = c.in_ok-question.question in
    let mid = c.members_question.new.dia in
    let made = c.in_ok-question.ensures.made in
    let e = apart-made mid c.member_question.new.dia c.inter.new.self c.in_ok-asked.asked q c.in_ok-common.common (member_of env key a) c.is_nothing.result
    c.member_question.ensures.extends.keeps made.diagram c.in_ok-asked.ensures.made c.in_ok-common.ensures.condition c.is_nothing.ensures in
    let n = nothing-along (and_of (member_of env key a) (condition mid q)) (asks (map (member_of env key) (a ∷ c.args.wanted.now)) []) (asks_one_before (member_of env key a) (condition mid q) (map (member_of env key) c.args.wanted.now) made.condition) in
    (λ h. (c.if-field.false, n.0 (e.0 h)), λ h. e.1 (n.1 h.1))
