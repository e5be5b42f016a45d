use Rattle.std.proofs.Common.{length, subst, sym}
use Rattle.type_model.specs.Defined.{TyBelow}
use Rattle.check_words.specs.Members.{IsStored}
use Rattle.needs_of_members.proofs.named.stored_shared.Goals as goal

pub returns-clause-below : goal.returns-clause-below
returns-clause-below g c = subst (TyBelow (length (g.T.Types.atoms c.args.types.now))) (sym c.in_ok-new.ensures.ok) c.in_ok-ty.ensures.defined

pub returns-clause-is : goal.returns-clause-is
returns-clause-is g c = subst (IsStored c.args.container.now c.args.keys.now c.args.member (g.T.Types.atoms c.args.types.now)) (sym c.in_ok-new.ensures.ok) c.in_ok-ty.ensures.is
