use Rattle.std.proofs.Common.{◌∙◌, sym}
use Rattle.needs_of_assignments.proofs.Wanting.{fixed-wants}
use Rattle.needs_of_assignments.proofs.assigned.type_of_variable.Goals as goal

pub returns-then-is_fixed-clause-wants : goal.returns-then-is_fixed-clause-wants
returns-then-is_fixed-clause-wants c = fixed-wants c.args.v.now c.args.at c.refused.result (sym c.is_fixed.ensures ∙ c.if-is_fixed.true) c.refused.ensures.wants
