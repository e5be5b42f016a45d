use Rattle.std.proofs.Common.{length, subst, sym}
use Rattle.operations.specs.Kinds.{IsNil}
use Rattle.type_model.specs.Defined.{TyBelow}
use Rattle.check_words.specs.Words.{EitherOf}
use Rattle.needs_of_members.proofs.named.optional_shared.Goals as goal

pub returns-clause-below : goal.returns-clause-below
returns-clause-below g c = subst (TyBelow (length (g.T.Types.atoms c.args.types.now))) (sym c.in_ok-new.ensures.ok) c.in_ok-ty.ensures.defined

pub returns-clause-is : goal.returns-clause-is
returns-clause-is g c = subst (EitherOf c.args.member.now IsNil (g.T.Types.atoms c.args.types.now)) (sym c.in_ok-new.ensures.ok) c.in_ok-ty.ensures.is
