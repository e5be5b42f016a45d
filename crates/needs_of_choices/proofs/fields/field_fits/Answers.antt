use Rattle.std.proofs.Common.{◌∙◌, ap, subst, sym}
use Rattle.type_model.specs.declared.basic.Ty.{Ty}
use Rattle.type_model.specs.Defined.{IsClosed}
use Rattle.typed_tree.specs.SharedTypes.{Shared}
use Rattle.check_words.specs.Words.{sem}
use Rattle.needs_of_choices.proofs.FieldByField.{asked-below, at-field}
use Rattle.needs_of_choices.proofs.fields.field_fits.Goals as goal

pub is_of_asked-requires-clause-asked : goal.is_of_asked-requires-clause-asked
is_of_asked-requires-clause-asked g c =
    asked-below (g.T.Types.atoms c.args.types.now) c.defs.result.now (c.defs.ensures.value ∙ c.env.ensures) (subst IsClosed (sym c.defs.ensures.value) c.defs.ensures.env.closed) _ c.args.member.atom c.args.place
    c.in-Ok.asked c.in-Ok.ensures

pub returns-in-Ok-clause-comes : goal.returns-in-Ok-clause-comes
returns-in-Ok-clause-comes g c = λ f h.
    let key = c.args.member.key.now in
    c.is_of_asked.ensures.comes (sem key) f
    (at-field (g.T.Types.atoms c.args.types.now) c.defs.result.now (c.defs.ensures.value ∙ c.env.ensures) c.args.member.atom c.args.place f h _ (sem key)
    (ap (λ (t : Ty). t.sem) (c.deref.ensures ∙ ap (λ (t : Shared). t.value) c.ty.ensures)) c.in-Ok.asked c.in-Ok.ensures)
