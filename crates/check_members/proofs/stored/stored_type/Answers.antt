use Rattle.std.proofs.Common.{List, None, Some, ◌∙◌, subst}
use Rattle.type_model.specs.declared.atoms.AtomDef.{AtomDef}
use Rattle.check_members.specs.Stored.{IsSourceIn}
use Rattle.check_members.proofs.StoredChoices.{stored-plain, stored-with}
use Rattle.check_members.proofs.stored.stored_type.Goals as goal

pub returns-in-Some-clause-is : goal.returns-in-Some-clause-is
returns-in-Some-clause-is g c =
    stored-with (g.T.Types.atoms c.args.types.now) c.args.container.now c.args.keys.now c.args.member c.in-Some.source.now c.with_choices_of.result
    (subst (λ (env : List AtomDef). IsSourceIn env c.args.container.now c.args.keys.now (Some c.in-Some.source.now)) (c.defs.ensures.value ∙ c.env.ensures) c.in-Some.ensures.source)
    c.with_choices_of.ensures

pub returns-in-None-clause-is : goal.returns-in-None-clause-is
returns-in-None-clause-is g c =
    stored-plain (g.T.Types.atoms c.args.types.now) c.args.container.now c.args.keys.now c.args.member c.plain.result
    (subst (λ (env : List AtomDef). IsSourceIn env c.args.container.now c.args.keys.now None) (c.defs.ensures.value ∙ c.env.ensures) c.in-None.ensures.source)
    c.plain.ensures
