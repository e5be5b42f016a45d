use Rattle.std.proofs.Common.{◌∙◌, ◌++◌, ◌∷◌, [], ap, cond, sym}
use Rattle.std.proofs.lemmas.List.{append-nil}
use Rattle.package_imports.proofs.order.Walk.leave_new.Goals as goal

pub returns-then-has-clause-left : goal.returns-then-has-clause-left
returns-then-has-clause-left c =
    let left = c.args.self.now.left.items in
    sym (ap (λ b. left ++ cond b [] (c.args.number ∷ [])) (sym c.has.ensures ∙ c.if-has.true) ∙ append-nil left)

pub returns-clause-left : goal.returns-clause-left
returns-clause-left c =
    let left = c.args.self.now.left.items in
    c.in_ok-leave.ensures.left ∙ sym (ap (λ b. left ++ cond b [] (c.args.number ∷ [])) (sym c.has.ensures ∙ c.if-has.false))
