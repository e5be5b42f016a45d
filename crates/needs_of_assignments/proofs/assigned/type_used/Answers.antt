use Rattle.std.proofs.Common.{◌∙◌, subst, sym}
use Rattle.needs_of_assignments.specs.Assigning.{Wants}
use Rattle.needs_of_assignments.proofs.Wanting.{lost-wants, used-wants}
use Rattle.needs_of_assignments.proofs.assigned.type_used.Goals as goal

pub returns-then-is_lost-clause-wants : goal.returns-then-is_lost-clause-wants
returns-then-is_lost-clause-wants c = lost-wants c.args.v.now c.args.at c.refused.result (sym c.is_lost.ensures ∙ c.if-is_lost.true) c.refused.ensures.wants

pub returns-clause-wants : goal.returns-clause-wants
returns-clause-wants c =
    subst (Wants _) (sym c.lift.ensures) (used-wants c.args.v.now c.args.at c.shared.result (sym c.is_lost.ensures ∙ c.if-is_lost.false) c.shared.ensures)
