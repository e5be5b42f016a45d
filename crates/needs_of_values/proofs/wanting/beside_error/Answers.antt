use Rattle.std.proofs.Common.{Ok, length, subst, sym}
use Rattle.checks.specs.Checks.{Comes}
use Rattle.flow_narrowing.specs.Flows.{IfShared}
use Rattle.operations.specs.Kinds.{IsError}
use Rattle.type_model.specs.Defined.{TyBelow}
use Rattle.typed_tree.specs.SharedTypes.{sem_of}
use Rattle.check_words.specs.Values.{wants_beside_error}
use Rattle.check_words.specs.Words.{Atoms, EitherOf}
use Rattle.needs_of_values.proofs.Beside.{none-beside, some-beside}
use Rattle.needs_of_values.proofs.wanting.beside_error.Goals as goal

pub or_error-requires : goal.or_error-requires
or_error-requires g c = subst (IfShared (TyBelow (length (g.T.Types.atoms c.args.types.now)))) c.in-Some.is c.requires

pub returns-in_ok-either-in-Some-clause-comes : goal.returns-in_ok-either-in-Some-clause-comes
returns-in_ok-either-in-Some-clause-comes g c = λ s ws e more.
    subst (λ w. Comes (wants_beside_error w) s (Ok tt) (record s { wants = ws })) (sym c.in-Some.is)
    (some-beside s c.in-Some.t c.in_ok-either-in-Some.either ws (subst (λ (a : Atoms). EitherOf (sem_of c.in-Some.t) IsError a c.in_ok-either-in-Some.either.value) (sym e) c.in_ok-either-in-Some.ensures.is) more)

pub returns-in-None-clause-comes : goal.returns-in-None-clause-comes
returns-in-None-clause-comes g c = λ s ws e more. subst (λ w. Comes (wants_beside_error w) s (Ok tt) (record s { wants = ws })) (sym c.in-None.is) (none-beside s ws more)
