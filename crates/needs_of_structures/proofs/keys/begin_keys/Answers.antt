use Rattle.std.proofs.Common.{◌∙◌, ◌++◌, [], ◌∷◌, None, ap, false, length, map}
use Rattle.check_words.specs.Constructors.{at_work}
use Rattle.check_work.specs.Views.{constructor_of, state_of}
use Rattle.check_work.proofs.Noting.{mapped-last}
use Rattle.needs_of_structures.proofs.Opening.{empty-below, opened-comes, opened-stands}
use Rattle.needs_of_structures.proofs.keys.begin_keys.Goals as goal

pub returns-clause-stands : goal.returns-clause-stands
returns-clause-stands c = λ env h.
    opened-stands (state_of env c.args.work.now) h (at_work None false) _ (empty-below (length env) false)
    (mapped-last constructor_of _ _ _ c.in_ok-push.ensures.items ∙ ap (λ d. map constructor_of c.args.work.now.constructors.items ++ d ∷ []) c.new_constructor.ensures)

pub returns-clause-comes : goal.returns-clause-comes
returns-clause-comes c = λ env.
    opened-comes (state_of env c.args.work.now) (at_work None false) _
    (mapped-last constructor_of _ _ _ c.in_ok-push.ensures.items ∙ ap (λ d. map constructor_of c.args.work.now.constructors.items ++ d ∷ []) c.new_constructor.ensures)
