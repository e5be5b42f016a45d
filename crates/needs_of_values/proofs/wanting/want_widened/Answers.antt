use Rattle.std.proofs.Common.{length, refl, subst}
use Rattle.typed_tree.specs.Exprs.{type_of}
use Rattle.check_words.specs.Sharing.{SameShared}
use Rattle.check_words.specs.Stands.{PartBelow}
use Rattle.check_words.proofs.Standing.{last-has, shared-below}
use Rattle.check_work.specs.Views.{state_of}
use Rattle.needs_of_values.proofs.Asked.{handed-on}
use Rattle.needs_of_values.proofs.Described.{wants-stand}
use Rattle.needs_of_values.proofs.Sorting.{last-of, over-same}
use Rattle.needs_of_values.proofs.Widened.{widens-come, widens-stops}
use Rattle.needs_of_values.proofs.wanting.want_widened.Goals as goal

pub widened-requires-clause-below : goal.widened-requires-clause-below
widened-requires-clause-below g c =
    let n = length (g.T.Types.atoms c.args.types.now) in
    shared-below n (type_of c.in-Some.e.now) c.in_ok-ty.ty (subst (λ t. SameShared t c.in_ok-ty.ty) c.ty.ensures c.in_ok-ty.ensures) (last-has (PartBelow n) _ _ (last-of _ _ _ c.as_slice.ensures.value c.in-Some.ensures) c.requires.stands.found)

pub returns-clause-stands : goal.returns-clause-stands
returns-clause-stands g c = wants-stand (state_of (g.T.Types.atoms c.args.types.now) c.args.work.now) c.requires.stands _ _ c.in_ok-wider.ensures.below c.in_ok-push.ensures.items

pub returns-clause-comes : goal.returns-clause-comes
returns-clause-comes g c =
    let s = state_of (g.T.Types.atoms c.args.types.now) c.args.work.now in
    widens-come g.T.Types.passes c.args.at s _ (last-of _ _ _ c.as_slice.ensures.value c.in-Some.ensures) c.in_ok-ty.ty (subst (λ t. SameShared t c.in_ok-ty.ty) c.ty.ensures c.in_ok-ty.ensures) c.in_ok-wider.wider _
    (over-same _ s _ _ _ refl c.in_ok-wider.ensures.atoms c.in_ok-wider.ensures.comes) c.in_ok-push.ensures.items

pub returns-in_err-wider-clause-comes : goal.returns-in_err-wider-clause-comes
returns-in_err-wider-clause-comes g c =
    let s = state_of (g.T.Types.atoms c.args.types.now) c.args.work.now in
    handed-on _ _ _ _ _ c.from_residual-in_err-wider.ensures
    (widens-stops g.T.Types.passes c.args.at s _ (last-of _ _ _ c.as_slice.ensures.value c.in-Some.ensures) c.in_ok-ty.ty (subst (λ t. SameShared t c.in_ok-ty.ty) c.ty.ensures c.in_ok-ty.ensures) _
    (over-same _ s _ _ _ refl c.in_err-wider.ensures.atoms c.in_err-wider.ensures.comes))
