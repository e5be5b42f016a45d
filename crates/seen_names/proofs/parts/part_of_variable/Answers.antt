use Rattle.std.proofs.Common.{◌∙◌, subst, sym}
use Rattle.typed_tree.specs.Views.{IsLocal}
use Rattle.seen_names.proofs.Putting.{lost-puts, variable-puts}
use Rattle.seen_names.proofs.parts.part_of_variable.Goals as goal

pub returns-then-is_lost-clause-puts : goal.returns-then-is_lost-clause-puts
returns-then-is_lost-clause-puts c = lost-puts c.args.v.now c.args.at c.refused.result (sym c.is_lost.ensures ∙ c.if-is_lost.true) c.refused.ensures.puts

pub returns-clause-puts : goal.returns-clause-puts
returns-clause-puts c =
    variable-puts c.args.v.now c.args.at c.in_ok-ty.ty c.local.result (sym c.is_lost.ensures ∙ c.if-is_lost.false) c.in_ok-ty.ensures.same
    (subst (λ b. IsLocal c.args.v.now.slot b c.in_ok-ty.ty c.args.at c.local.result) c.is_some.ensures c.local.ensures)
