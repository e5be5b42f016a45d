use Rattle.std.proofs.Common.{◌∙◌, ◌++◌, [], ◌∷◌, ap, subst}
use Rattle.check_words.specs.Sharing.{SameShared}
use Rattle.check_work.specs.Views.{state_of}
use Rattle.needs_of_values.proofs.Made.{encloses-come, encloses-stand}
use Rattle.needs_of_values.proofs.parts.enclose.Goals as goal

pub returns-clause-stands : goal.returns-clause-stands
returns-clause-stands c = λ env h.
    encloses-stand (state_of env c.args.work.now) h c.args.at c.in_ok-part.part c.in_ok-whole.whole c.in_ok-ty.ty _ c.in_ok-part.ensures.part
    (subst (λ t. SameShared t c.in_ok-ty.ty) c.ty.ensures c.in_ok-ty.ensures) c.in_ok-whole.ensures (c.in_ok-push.ensures.items ∙ ap (λ es. es ++ c.in_ok-whole.whole ∷ []) c.in_ok-part.ensures.kept)

pub returns-clause-comes : goal.returns-clause-comes
returns-clause-comes c = λ env.
    encloses-come (state_of env c.args.work.now) c.args.at c.in_ok-part.part c.in_ok-whole.whole c.in_ok-ty.ty _ c.in_ok-part.ensures.part
    (subst (λ t. SameShared t c.in_ok-ty.ty) c.ty.ensures c.in_ok-ty.ensures) c.in_ok-whole.ensures (c.in_ok-push.ensures.items ∙ ap (λ es. es ++ c.in_ok-whole.whole ∷ []) c.in_ok-part.ensures.kept)
