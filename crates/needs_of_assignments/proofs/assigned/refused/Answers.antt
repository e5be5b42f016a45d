use Rattle.std.proofs.Common.{refl}
use Rattle.needs_of_assignments.proofs.Wanting.{refused-wants}
use Rattle.needs_of_assignments.proofs.assigned.refused.Goals as goal

pub returns-clause-wants : goal.returns-clause-wants
returns-clause-wants c = refused-wants _ _ _ (record { has_code = refl; stands = refl; shows = refl })
