use Rattle.std.proofs.Common.{◌∙◌, ◌++◌, [], ◌∷◌, ap, length, map}
use Rattle.std.proofs.lemmas.List.Elements.{All-nil}
use Rattle.type_model.specs.Defined.{TyBelow}
use Rattle.check_words.specs.Constructors.{at_work}
use Rattle.check_work.specs.Views.{constructor_of, state_of}
use Rattle.check_work.proofs.Noting.{mapped-last}
use Rattle.needs_of_structures.proofs.Opening.{opened-comes, opened-stands}
use Rattle.needs_of_choices.proofs.choosing.open_chosen.Goals as goal

pub returns-clause-stands : goal.returns-clause-stands
returns-clause-stands c = λ env there h.
    opened-stands (state_of env c.args.work.now) h (at_work c.args.chosen.0 c.args.chosen.1) _ (record { choice = there; types = All-nil (TyBelow (length env)) })
    (mapped-last constructor_of _ _ _ c.in_ok-push.ensures.items ∙ ap (λ d. map constructor_of c.args.work.now.constructors.items ++ d ∷ []) c.new_constructor.ensures)

pub returns-clause-comes : goal.returns-clause-comes
returns-clause-comes c = λ env.
    opened-comes (state_of env c.args.work.now) (at_work c.args.chosen.0 c.args.chosen.1) _
    (mapped-last constructor_of _ _ _ c.in_ok-push.ensures.items ∙ ap (λ d. map constructor_of c.args.work.now.constructors.items ++ d ∷ []) c.new_constructor.ensures)
