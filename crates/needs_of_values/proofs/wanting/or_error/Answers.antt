use Rattle.std.proofs.Common.{length, subst, sym}
use Rattle.operations.specs.Kinds.{IsError}
use Rattle.type_model.specs.Defined.{IsDefined, TyBelow}
use Rattle.typed_tree.specs.SharedTypes.{sem_of}
use Rattle.check_words.specs.Words.{EitherOf}
use Rattle.needs_of_values.proofs.wanting.or_error.Goals as goal

pub either_of-requires : goal.either_of-requires
either_of-requires g c = subst (IsDefined (g.T.Types.atoms c.args.types.now)) (sym c.shapes_in-shapes.ensures) c.requires.0

pub returns-clause-below : goal.returns-clause-below
returns-clause-below g c = subst (TyBelow (length (g.T.Types.atoms c.args.types.now))) (sym c.in_ok-new.ensures.ok) c.in_ok-ty.ensures.defined

pub returns-clause-is : goal.returns-clause-is
returns-clause-is g c =
    subst (EitherOf (sem_of c.args.t.now) IsError (g.T.Types.atoms c.args.types.now)) (sym c.in_ok-new.ensures.ok)
    (subst (λ s. EitherOf s IsError (g.T.Types.atoms c.args.types.now) c.in_ok-ty.ty) c.shapes_in-shapes.ensures c.in_ok-ty.ensures.is)
