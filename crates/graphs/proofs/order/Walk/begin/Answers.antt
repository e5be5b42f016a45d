use Rattle.std.proofs.Common.{◌∙◌, ◌++◌, ◌∷◌, [], ap}
use Rattle.graphs.specs.inner.Walks.{first_step}
use Rattle.graphs.proofs.Walking.{is-begun}
use Rattle.graphs.proofs.order.Walk.begin.Goals as goal

pub returns : goal.returns
returns c = λ next passed w path.
    is-begun next passed c.args.self.now _ c.args.number w path (c.is_new.ensures.0 c.if-not-is_new.false) c.set_mark.ensures.marks
    (c.in_ok-push.ensures.items ∙ ap (λ v. v.items ++ first_step c.args.number ∷ []) c.set_mark.ensures.steps) (ap (λ v. v.items) c.set_mark.ensures.order)
