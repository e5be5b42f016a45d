use Rattle.std.proofs.Common.{◌≡◌, Ok, OnOk, subst}
use Rattle.checks.specs.Checks.{Comes}
use Rattle.checks.proofs.Steps.{stops}
use Rattle.check_kinds.proofs.Over.{over-at}
use Rattle.check_words.specs.Words.{makes_strict}
use Rattle.check_words.proofs.Coming.{next}
use Rattle.check_work.specs.Views.{state_of}
use Rattle.typed_tree.specs.declared.form.StrictForm.TheVariants as form
use Rattle.needs_of_members.specs.Fronts.{AreSides}
use Rattle.needs_of_members.proofs.Answered.{lifted-comes, lifted-on}
use Rattle.needs_of_members.proofs.Fronts.{container-below, element-read, key-below}
use Rattle.needs_of_members.proofs.reads.read_by.Goals as goal

pub read_type-requires-clause-container : goal.read_type-requires-clause-container
read_type-requires-clause-container g c = container-below (state_of (g.T.Types.atoms c.args.types.now) c.args.work.now) _ _ (subst (λ xs. AreSides xs c.in-Some.sides.container.now c.in-Some.sides.key.now) c.as_slice.ensures.value c.in-Some.ensures) c.requires.stands

pub read_type-requires-clause-key : goal.read_type-requires-clause-key
read_type-requires-clause-key g c = key-below (state_of (g.T.Types.atoms c.args.types.now) c.args.work.now) _ _ (subst (λ xs. AreSides xs c.in-Some.sides.container.now c.in-Some.sides.key.now) c.as_slice.ensures.value c.in-Some.ensures) c.requires.stands

pub returns-in-Ok-clause-stands : goal.returns-in-Ok-clause-stands
returns-in-Ok-clause-stands g c =
    lifted-on c.make_read.result _ c.lift.ensures _ (c.make_read.ensures.stands (g.T.Types.atoms c.args.types.now) c.in-Ok.ensures.below c.requires.stands)

pub returns-in-Ok-clause-comes : goal.returns-in-Ok-clause-comes
returns-in-Ok-clause-comes g c =
    let s = state_of (g.T.Types.atoms c.args.types.now) c.args.work.now in
    let mid = state_of (g.T.Types.atoms c.read_type.new.types) c.args.work.now in
    let new = state_of (g.T.Types.atoms c.read_type.new.types) c.make_read.new.work in
    element-read s _ _ (subst (λ xs. AreSides xs c.in-Some.sides.container.now c.in-Some.sides.key.now) c.as_slice.ensures.value c.in-Some.ensures) g.T.Types.passes c.args.at _ new c.args.access
    (next _ _ _ _ _ c.in-Ok.ty mid (over-at _ s _ _ c.in-Ok.ensures.comes)
    (lifted-comes c.make_read.result _ c.lift.ensures _ mid new
    (subst (λ f. OnOk c.make_read.result (Comes (makes_strict 2 (form.Read f) (λ env t. t ≡ c.in-Ok.ty.value) c.args.at) mid (Ok tt) new)) c.read_of.ensures
    (c.make_read.ensures.comes (g.T.Types.atoms c.read_type.new.types)))))

pub returns-in-Err-clause-comes : goal.returns-in-Err-clause-comes
returns-in-Err-clause-comes g c =
    let s = state_of (g.T.Types.atoms c.args.types.now) c.args.work.now in
    element-read s _ _ (subst (λ xs. AreSides xs c.in-Some.sides.container.now c.in-Some.sides.key.now) c.as_slice.ensures.value c.in-Some.ensures) g.T.Types.passes c.args.at _ _ c.args.access (stops _ _ s _ c.in-Err.stop (over-at _ s _ _ c.in-Err.ensures.comes))
