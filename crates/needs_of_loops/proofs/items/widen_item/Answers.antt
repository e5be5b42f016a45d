use Rattle.std.proofs.Common.{length, subst, sym}
use Rattle.checks.proofs.Steps.{stops}
use Rattle.descriptors.specs.Steps.{AreOwnTypes}
use Rattle.type_model.specs.Defined.{TyBelow}
use Rattle.check_kinds.proofs.Over.{over-at}
use Rattle.check_kinds.proofs.Shapes.{plain-below}
use Rattle.check_work.specs.Views.{state_of}
use Rattle.needs_of_loops.proofs.ItemSteps.{wanted-stands, widens-item-comes, widens-item-stops}
use Rattle.seen_names.proofs.Putting.{handed-stop}
use Rattle.needs_of_loops.proofs.items.widen_item.Goals as goal

pub widened-requires-clause-own : goal.widened-requires-clause-own
widened-requires-clause-own g c = subst (λ env. AreOwnTypes env c.args.own.now) (sym c.in_ok-item.ensures.atoms) c.requires.own

pub widened-requires-clause-below : goal.widened-requires-clause-below
widened-requires-clause-below g c =
    subst (λ env. TyBelow (length env) c.in_ok-narrow.narrow.value) (sym c.in_ok-item.ensures.atoms)
    (subst (TyBelow (length (g.T.Types.atoms c.args.types.now))) (sym c.in_ok-narrow.ensures.is) (plain-below _ c.in_ok-item.item c.in_ok-item.ensures.defined))

pub returns-in_err-item-clause-comes : goal.returns-in_err-item-clause-comes
returns-in_err-item-clause-comes g c = handed-stop _ _ _ _ _ c.from_residual.ensures (stops _ _ _ _ _ c.in_err-item.ensures.comes)

pub returns-in_err-t-clause-comes : goal.returns-in_err-t-clause-comes
returns-in_err-t-clause-comes g c =
    let s = state_of (g.T.Types.atoms c.args.types.now) c.args.work.now in
    handed-stop _ _ _ _ _ c.from_residual-in_err-t.ensures (widens-item-stops g.T.Types.passes c.args.at s c.in_ok-item.item c.in_ok-narrow.narrow (g.T.Types.atoms c.item_type.new.types) _ _ c.in_ok-item.ensures.comes c.in_ok-narrow.ensures.is
    (over-at _ (state_of (g.T.Types.atoms c.item_type.new.types) c.args.work.now) _ _ c.in_err-t.ensures.comes))

pub returns-clause-stands : goal.returns-clause-stands
returns-clause-stands g c =
    let env = g.T.Types.atoms c.args.types.now in
    wanted-stands (state_of env c.args.work.now) c.in_ok-t.t _ c.in_ok-push.ensures.items (subst (λ atoms. TyBelow (length atoms) c.in_ok-t.t.value) c.in_ok-item.ensures.atoms c.in_ok-t.ensures.below) c.requires.stands

pub returns-clause-comes : goal.returns-clause-comes
returns-clause-comes g c =
    let s = state_of (g.T.Types.atoms c.args.types.now) c.args.work.now in
    widens-item-comes g.T.Types.passes c.args.at s c.in_ok-item.item c.in_ok-narrow.narrow c.in_ok-t.t _ (g.T.Types.atoms c.item_type.new.types) _ c.in_ok-item.ensures.comes c.in_ok-narrow.ensures.is
    (over-at _ (state_of (g.T.Types.atoms c.item_type.new.types) c.args.work.now) _ _ c.in_ok-t.ensures.comes) c.in_ok-push.ensures.items
