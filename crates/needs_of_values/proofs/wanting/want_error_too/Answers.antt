use Rattle.std.proofs.Common.{All, length, refl, subst, sym}
use Rattle.flow_narrowing.specs.Flows.{IfShared}
use Rattle.type_model.specs.Defined.{TyBelow}
use Rattle.check_words.proofs.Standing.{also-has, last-has, stands-wants}
use Rattle.check_work.specs.Views.{state_of}
use Rattle.needs_of_values.proofs.Beside.{error-too-comes}
use Rattle.needs_of_values.proofs.Sorting.{last-of}
use Rattle.needs_of_values.proofs.wanting.want_error_too.Goals as goal

pub beside_error-requires : goal.beside_error-requires
beside_error-requires g c = last-has (IfShared (TyBelow (length (g.T.Types.atoms c.args.types.now)))) _ _ (last-of _ _ _ c.as_slice.ensures.value c.in-Some.ensures) c.requires.wants

pub returns-clause-stands : goal.returns-clause-stands
returns-clause-stands g c =
    let env = g.T.Types.atoms c.args.types.now in
    stands-wants (state_of env c.args.work.now) c.requires _
    (subst (All (IfShared (TyBelow (length env)))) (sym c.in_ok-push.ensures.items) (also-has (IfShared (TyBelow (length env))) _ _ c.requires.wants c.in_ok-want.ensures.below))

pub returns-clause-comes : goal.returns-clause-comes
returns-clause-comes g c =
    let s = state_of (g.T.Types.atoms c.args.types.now) c.args.work.now in
    error-too-comes s _ _ (last-of _ _ _ c.as_slice.ensures.value c.in-Some.ensures) (c.in_ok-want.ensures.comes s _ refl c.in_ok-push.ensures.items)
