use Rattle.std.proofs.Common.{◌∙◌, subst}
use Rattle.check_words.specs.Words.{Atoms}
use Rattle.needs_of_choices.specs.ByKeys.{IsCountOf}
use Rattle.needs_of_choices.proofs.FieldByField.{all-asked, fields-there}
use Rattle.needs_of_choices.proofs.fields.all_fit.Goals as goal

pub returns-in-Some-clause-comes : goal.returns-in-Some-clause-comes
returns-in-Some-clause-comes g c =
    let env = g.T.Types.atoms c.args.types.now in
    let member = c.args.member in
    let there = fields-there env member.atom c.in-Some.count (subst (λ (e : Atoms). IsCountOf e member.atom c.in-Some.count) (c.defs.ensures.value ∙ c.env.ensures) c.in-Some.ensures) in
    all-asked g.T.Types.passes member.key.now member.value.now member.atom member.at env _ c.fields_fit.result there.0 there.1 (c.fields_fit.ensures.comes there.0 there.1 there.2)
