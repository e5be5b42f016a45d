use Rattle.std.proofs.Common.{subst}
use Rattle.checks.proofs.Steps.{stops}
use Rattle.check_kinds.proofs.Over.{over-at}
use Rattle.check_words.proofs.Coming.{next}
use Rattle.check_words.specs.State.{IsLast}
use Rattle.check_work.specs.Views.{state_of}
use Rattle.needs_of_members.specs.Fronts.{AreSides}
use Rattle.needs_of_members.proofs.Answered.{lifted-comes, lifted-on, on-made, want-stands, want-made}
use Rattle.needs_of_members.proofs.Fronts.{container-below, key-below, stored-expected}
use Rattle.needs_of_members.proofs.storing.expect_stored.Goals as goal

pub stored_by-requires-clause-container : goal.stored_by-requires-clause-container
stored_by-requires-clause-container g c = container-below (state_of (g.T.Types.atoms c.args.types.now) c.args.work.now) _ _ (subst (λ xs. AreSides xs c.in-Some-last_sides.sides.container.now c.in-Some-last_sides.sides.key.now) c.as_slice-in-Some.ensures.value c.in-Some-last_sides.ensures) c.requires

pub stored_by-requires-clause-key : goal.stored_by-requires-clause-key
stored_by-requires-clause-key g c = key-below (state_of (g.T.Types.atoms c.args.types.now) c.args.work.now) _ _ (subst (λ xs. AreSides xs c.in-Some-last_sides.sides.container.now c.in-Some-last_sides.sides.key.now) c.as_slice-in-Some.ensures.value c.in-Some-last_sides.ensures) c.requires

pub returns-in-Ok-clause-stands : goal.returns-in-Ok-clause-stands
returns-in-Ok-clause-stands g c =
    lifted-on c.want.result _ c.lift.ensures _
    (on-made _ _ c.want.result (λ e. want-stands (state_of (g.T.Types.atoms c.args.types.now) c.args.work.now) c.requires c.in-Ok.t _ c.in-Ok.ensures.below e) c.want.ensures)

pub returns-in-Ok-clause-comes : goal.returns-in-Ok-clause-comes
returns-in-Ok-clause-comes g c =
    let s = state_of (g.T.Types.atoms c.args.types.now) c.args.work.now in
    let mid = state_of (g.T.Types.atoms c.stored_by.new.types) c.args.work.now in
    stored-expected s _ _ (subst (λ xs. AreSides xs c.in-Some-last_sides.sides.container.now c.in-Some-last_sides.sides.key.now) c.as_slice-in-Some.ensures.value c.in-Some-last_sides.ensures) g.T.Types.passes c.args.at _ _ _ (subst (λ xs. IsLast xs c.in-Some.access.now) c.as_slice.ensures.value c.in-Some.ensures)
    (next _ _ _ _ _ c.in-Ok.t mid (over-at _ s _ _ c.in-Ok.ensures.comes)
    (lifted-comes c.want.result _ c.lift.ensures _ mid _ (on-made _ _ c.want.result (λ e. want-made mid c.in-Ok.t _ e) c.want.ensures)))

pub returns-in-Err-clause-comes : goal.returns-in-Err-clause-comes
returns-in-Err-clause-comes g c =
    let s = state_of (g.T.Types.atoms c.args.types.now) c.args.work.now in
    stored-expected s _ _ (subst (λ xs. AreSides xs c.in-Some-last_sides.sides.container.now c.in-Some-last_sides.sides.key.now) c.as_slice-in-Some.ensures.value c.in-Some-last_sides.ensures) g.T.Types.passes c.args.at _ _ _ (subst (λ xs. IsLast xs c.in-Some.access.now) c.as_slice.ensures.value c.in-Some.ensures)
    (stops _ _ s _ c.in-Err.stop (over-at _ s _ _ c.in-Err.ensures.comes))
