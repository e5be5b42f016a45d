use Rattle.std.proofs.Common.{◌≡◌, Err, Ok, OnOk, subst}
use Rattle.checks.specs.Checks.{Comes}
use Rattle.checks.proofs.Steps.{stops}
use Rattle.check_kinds.specs.Over.{ComesOver}
use Rattle.check_kinds.proofs.Over.{over-at}
use Rattle.check_words.specs.Words.{makes_strict}
use Rattle.check_words.proofs.Coming.{next}
use Rattle.check_words.proofs.Growing.{stands-grows}
use Rattle.check_words.specs.State.{IsLast}
use Rattle.check_work.specs.Views.{state_of}
use Rattle.typed_tree.specs.declared.form.StrictForm.TheVariants as form
use Rattle.needs_of_members.specs.Fronts.{field_read}
use Rattle.needs_of_members.proofs.Answered.{lifted-comes, lifted-on}
use Rattle.needs_of_members.proofs.Fronts.{field-read, last-defined}
use Rattle.needs_of_members.proofs.reads.read_field.Goals as goal

pub field_read-requires : goal.field_read-requires
field_read-requires g c = last-defined (state_of (g.T.Types.atoms c.args.types.now) c.args.work.now) _ _ (subst (λ xs. IsLast xs c.in-Some.e.now) c.as_slice.ensures.value c.in-Some.ensures) c.shapes_of.ensures c.requires

pub returns-in-Ok-clause-stands : goal.returns-in-Ok-clause-stands
returns-in-Ok-clause-stands g c =
    lifted-on c.make_read.result _ c.lift.ensures _
    (c.make_read.ensures.stands (g.T.Types.atoms c.field_read.new.types) c.in-Ok.ensures.below
    (stands-grows (state_of (g.T.Types.atoms c.args.types.now) c.args.work.now) _ c.in-Ok.ensures.kept c.requires))

pub returns-in-Ok-clause-comes : goal.returns-in-Ok-clause-comes
returns-in-Ok-clause-comes g c =
    let s = state_of (g.T.Types.atoms c.args.types.now) c.args.work.now in
    let mid = state_of (g.T.Types.atoms c.field_read.new.types) c.args.work.now in
    let new = state_of (g.T.Types.atoms c.field_read.new.types) c.make_read.new.work in
    field-read s _ _ (subst (λ xs. IsLast xs c.in-Some.e.now) c.as_slice.ensures.value c.in-Some.ensures) c.shapes_of.ensures g.T.Types.passes c.args.field.now c.args.at _ new
    (next _ _ _ _ _ c.in-Ok.ty mid (over-at _ s _ _ (subst (λ text. ComesOver (field_read g.T.Types.passes text c.shapes_of.result.now c.args.at) (g.T.Types.atoms c.args.types.now) (Ok c.in-Ok.ty) (g.T.Types.atoms c.field_read.new.types)) c.as_text.ensures c.in-Ok.ensures.comes))
    (lifted-comes c.make_read.result _ c.lift.ensures _ mid new
    (subst (λ f. OnOk c.make_read.result (Comes (makes_strict 1 (form.Read f) (λ env t. t ≡ c.in-Ok.ty.value) c.args.at) mid (Ok tt) new)) c.field_form.ensures
    (c.make_read.ensures.comes (g.T.Types.atoms c.field_read.new.types)))))

pub returns-in-Err-clause-comes : goal.returns-in-Err-clause-comes
returns-in-Err-clause-comes g c =
    let s = state_of (g.T.Types.atoms c.args.types.now) c.args.work.now in
    field-read s _ _ (subst (λ xs. IsLast xs c.in-Some.e.now) c.as_slice.ensures.value c.in-Some.ensures) c.shapes_of.ensures g.T.Types.passes c.args.field.now c.args.at _ _ (stops _ _ s _ c.in-Err.stop (over-at _ s _ _ (subst (λ text. ComesOver (field_read g.T.Types.passes text c.shapes_of.result.now c.args.at) (g.T.Types.atoms c.args.types.now) (Err c.in-Err.stop) (g.T.Types.atoms c.field_read.new.types)) c.as_text.ensures c.in-Err.ensures.comes)))
