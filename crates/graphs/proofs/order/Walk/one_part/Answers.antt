use Rattle.std.proofs.Common.{◌∙◌, ◌++◌, ◌∷◌, [], ap, refl, subst, sym, Some}
use Rattle.graphs.specs.inner.Walks.{IsPath, first_step}
use Rattle.graphs.proofs.Paths.{path-push}
use Rattle.graphs.proofs.Walking.{last-closes, last-inside, walked-as}
use Rattle.graphs.proofs.order.Walk.one_part.Goals as goal

pub returns-in_ok-begin-in-Some-New : goal.returns-in_ok-begin-in-Some-New
returns-in_ok-begin-in-Some-New c = λ next passed w h rest.
    let self = c.args.self.now in
    let steps = self.steps.items ++ c.args.step ∷ [] in
    let pushed = c.in_ok-push-in-Some-New.ensures.items in
    let begins = c.in_ok-begin-in-Some-New.ensures next passed (walked-as next passed self.marks.items steps self.order.items self.marks.items c.push.new.self.items self.order.items w refl pushed refl)
    (subst (λ ss. IsPath next (ss ++ first_step c.args.part ∷ [])) (sym pushed) (path-push next self.steps.items c.args.step (first_step c.args.part) w.path h)) in
    (begins.walked, begins.less (sym c.mark.ensures ∙ c.in-Some-New.is ∙ ap Some c.in-Some-New.field-0-is))

pub returns-in-Some-Begun : goal.returns-in-Some-Begun
returns-in-Some-Begun c = λ next passed w h rest.
    let self = c.args.self.now in
    last-closes next passed self.marks.items self.steps.items self.order.items c.args.step w c.args.part h (sym c.mark.ensures ∙ c.in-Some-Begun.is ∙ ap Some c.in-Some-Begun.field-0-is)

pub returns-in-Some-Done : goal.returns-in-Some-Done
returns-in-Some-Done c = λ next passed w h rest. absurd (rest (sym c.mark.ensures ∙ c.in-Some-Done.is ∙ ap Some c.in-Some-Done.field-0-is))

pub returns-in-None : goal.returns-in-None
returns-in-None c = λ next passed w h rest.
    let self = c.args.self.now in
    absurd (last-inside next passed self.marks.items self.steps.items self.order.items c.args.step w c.args.part h (sym c.mark.ensures ∙ c.in-None.is))
