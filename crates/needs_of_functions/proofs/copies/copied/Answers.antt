use Rattle.std.proofs.Common.{subst, sym}
use Rattle.descriptors.proofs.Yielding.{copy-below}
use Rattle.type_model.specs.Defined.{TyBelow}
use Rattle.needs_of_functions.proofs.copies.copied.Goals as goal

pub returns-clause-below : goal.returns-clause-below
returns-clause-below c = λ n h. subst (TyBelow n) (sym c.in_ok-new.ensures.ok) (copy-below n c.args.t.now c.in_ok-t.t c.in_ok-t.ensures h)
