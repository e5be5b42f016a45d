use Rattle.std.proofs.Common.{subst, sym}
use Rattle.needs_of_assignments.specs.Assigning.{Wants}
use Rattle.needs_of_assignments.proofs.Wanting.{copy-wants, second-wants}
use Rattle.needs_of_assignments.proofs.assigned.type_of_declared.Goals as goal

pub returns-clause-wants : goal.returns-clause-wants
returns-clause-wants c =
    subst (Wants _) (sym c.lift.ensures) (second-wants c.args.is_final _ _ _ c.if-is_final.false (copy-wants c.args.t.now c.copied.result c.copied.ensures.copy))
