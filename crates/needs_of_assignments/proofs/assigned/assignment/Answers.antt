use Rattle.std.proofs.Common.{subst, sym}
use Rattle.needs_of_assignments.specs.Assigning.{IsAssignment}
use Rattle.needs_of_assignments.proofs.assigned.assignment.Goals as goal

pub returns-in-Variable : goal.returns-in-Variable
returns-in-Variable c = subst (λ w. IsAssignment w c.args.value.value c.args.at c.set.result) (sym c.in-Variable.is) c.set.ensures
