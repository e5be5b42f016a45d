use Rattle.std.proofs.Common.{◌∙◌, ap}
use Rattle.graphs.proofs.Walking.{is-closed}
use Rattle.graphs.proofs.order.Walk.close.Goals as goal

pub returns : goal.returns
returns c = λ next passed step e w all.
    is-closed next passed c.args.self.now c.set_mark.new.self step c.args.number e w all c.set_mark.ensures.marks (ap (λ v. v.items) c.set_mark.ensures.steps)
    (ap (λ v. v.items) c.set_mark.ensures.order ∙ c.in_ok-push.ensures.items)
