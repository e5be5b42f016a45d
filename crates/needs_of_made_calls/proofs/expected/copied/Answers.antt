use Rattle.std.proofs.Common.{subst, sym}
use Rattle.descriptors.specs.Described.{IsCopy}
use Rattle.descriptors.proofs.Yielding.{copy-below}
use Rattle.type_model.specs.declared.basic.Ty.{Ty}
use Rattle.type_model.specs.Defined.{TyBelow}
use Rattle.needs_of_made_calls.proofs.expected.copied.Goals as goal

pub returns-clause-is : goal.returns-clause-is
returns-clause-is c = subst (λ (u : Ty). IsCopy c.args.t.now u) (sym c.in_ok-new.ensures.ok) c.in_ok-t.ensures

pub returns-clause-below : goal.returns-clause-below
returns-clause-below c = λ n h. subst (λ (u : Ty). TyBelow n u) (sym c.in_ok-new.ensures.ok) (copy-below n c.args.t.now c.in_ok-t.t c.in_ok-t.ensures h)
