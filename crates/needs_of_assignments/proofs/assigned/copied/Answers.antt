use Rattle.std.proofs.Common.{subst, sym}
use Rattle.type_model.specs.Defined.{TyBelow}
use Rattle.descriptors.proofs.Yielding.{copy-below}
use Rattle.needs_of_assignments.proofs.assigned.copied.Goals as goal

pub returns-clause-below : goal.returns-clause-below
returns-clause-below c = λ n h. subst (TyBelow n) (sym c.in_ok-new.ensures.ok) (copy-below n c.args.t.now c.in_ok-copy.field-0 c.in_ok-copy.ensures h)
