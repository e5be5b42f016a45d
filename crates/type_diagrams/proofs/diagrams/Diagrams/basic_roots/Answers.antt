use Rattle.std.proofs.Common.{refl}
use Rattle.type_diagrams.proofs.diagrams.Diagrams.basic_roots.Goals as goal

pub returns-in_err-marked-in-Readonly-clause-extends : goal.returns-in_err-marked-in-Readonly-clause-extends
returns-in_err-marked-in-Readonly-clause-extends c = c.literal.ensures.extends 0 (λ apart. absurd (apart refl))

pub returns-in_ok-marked-in-Readonly-clause-extends : goal.returns-in_ok-marked-in-Readonly-clause-extends
returns-in_ok-marked-in-Readonly-clause-extends c = c.literal.ensures.extends 0 (λ apart. absurd (apart refl))
