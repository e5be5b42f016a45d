use Rattle.std.proofs.Common.{All, Any, length, subst, sym}
use Rattle.descriptors.specs.Described.{IsPlain}
use Rattle.type_model.specs.Defined.{TyBelow}
use Rattle.type_model.specs.Membership.{In}
use Rattle.needs_of_actions.proofs.Awaited.{copies-below, several-is}
use Rattle.needs_of_actions.proofs.wanted.several.Goals as goal

pub any_of-requires : goal.any_of-requires
any_of-requires g c = let env = g.T.Types.atoms c.args.types.now in
    subst (All (TyBelow (length env))) (sym c.as_slice.ensures.value) (copies-below (length env) c.args.wants.now c.in_ok-all.all.items c.in_ok-all.ensures c.requires)

pub returns-clause-is : goal.returns-clause-is
returns-clause-is g c = let env = g.T.Types.atoms c.args.types.now in
    several-is env c.args.wants.now c.in_ok-all.all.items c.in_ok-ty.ty c.in_ok-new.field-0 c.in_ok-all.ensures
    (subst (λ us. IsPlain (λ x. Any (λ v. In env x v.sem) us) env c.in_ok-ty.ty) c.as_slice.ensures.value c.in_ok-ty.ensures.is) c.in_ok-new.ensures.ok
