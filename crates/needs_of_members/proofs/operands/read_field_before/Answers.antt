use Rattle.std.proofs.Common.{Err, Ok, subst}
use Rattle.checks.proofs.Steps.{stops}
use Rattle.check_kinds.specs.Over.{ComesOver}
use Rattle.check_kinds.proofs.Over.{over-at}
use Rattle.check_words.proofs.Coming.{next}
use Rattle.check_words.proofs.Growing.{stands-grows}
use Rattle.check_work.specs.Views.{state_of}
use Rattle.needs_of_members.specs.Fronts.{AreSides, field_read}
use Rattle.needs_of_members.proofs.Answered.{lifted-comes, lifted-on, on-made, want-made, want-stands}
use Rattle.needs_of_members.proofs.Fronts.{container-below, stored-field-read}
use Rattle.needs_of_members.proofs.operands.read_field_before.Goals as goal

pub field_read-requires : goal.field_read-requires
field_read-requires g c = container-below (state_of (g.T.Types.atoms c.args.types.now) c.args.work.now) _ _ (subst (λ xs. AreSides xs c.in-Some.sides.container.now c.in-Some.sides.key.now) c.as_slice.ensures.value c.in-Some.ensures) c.requires

pub returns-in-Ok-clause-stands : goal.returns-in-Ok-clause-stands
returns-in-Ok-clause-stands g c =
    let h = stands-grows (state_of (g.T.Types.atoms c.args.types.now) c.args.work.now) (g.T.Types.atoms c.field_read.new.types) c.in-Ok.ensures.kept c.requires in
    lifted-on c.want.result _ c.lift.ensures _
    (on-made _ _ c.want.result (λ e. want-stands (state_of (g.T.Types.atoms c.field_read.new.types) c.args.work.now) h c.in-Ok.t _ c.in-Ok.ensures.below e) c.want.ensures)

pub returns-in-Ok-clause-comes : goal.returns-in-Ok-clause-comes
returns-in-Ok-clause-comes g c =
    let s = state_of (g.T.Types.atoms c.args.types.now) c.args.work.now in
    let mid = state_of (g.T.Types.atoms c.field_read.new.types) c.args.work.now in
    stored-field-read s _ _ (subst (λ xs. AreSides xs c.in-Some.sides.container.now c.in-Some.sides.key.now) c.as_slice.ensures.value c.in-Some.ensures) g.T.Types.passes c.args.at _ _ c.args.field.now
    (next _ _ _ _ _ c.in-Ok.t mid (over-at _ s _ _ (subst (λ text. ComesOver (field_read g.T.Types.passes text c.in-Some.sides.container.now.sem c.args.at) (g.T.Types.atoms c.args.types.now) (Ok c.in-Ok.t) (g.T.Types.atoms c.field_read.new.types)) c.as_text.ensures c.in-Ok.ensures.comes))
    (lifted-comes c.want.result _ c.lift.ensures _ mid _ (on-made _ _ c.want.result (λ e. want-made mid c.in-Ok.t _ e) c.want.ensures)))

pub returns-in-Err-clause-comes : goal.returns-in-Err-clause-comes
returns-in-Err-clause-comes g c =
    let s = state_of (g.T.Types.atoms c.args.types.now) c.args.work.now in
    stored-field-read s _ _ (subst (λ xs. AreSides xs c.in-Some.sides.container.now c.in-Some.sides.key.now) c.as_slice.ensures.value c.in-Some.ensures) g.T.Types.passes c.args.at _ _ c.args.field.now
    (stops _ _ s _ c.in-Err.stop (over-at _ s _ _ (subst (λ text. ComesOver (field_read g.T.Types.passes text c.in-Some.sides.container.now.sem c.args.at) (g.T.Types.atoms c.args.types.now) (Err c.in-Err.stop) (g.T.Types.atoms c.field_read.new.types)) c.as_text.ensures c.in-Err.ensures.comes)))
