use Rattle.type_model.specs.declared.answers.Keys.TheVariants.{Field}
use Rattle.std.proofs.Common.{◌≡◌, Err, Ok, OnOk, subst}
use Rattle.checks.specs.Checks.{Comes}
use Rattle.checks.proofs.Steps.{stops}
use Rattle.check_kinds.specs.Over.{ComesOver}
use Rattle.check_kinds.proofs.Over.{over-at}
use Rattle.check_words.specs.Words.{makes_strict}
use Rattle.check_words.proofs.Coming.{next}
use Rattle.check_words.specs.State.{IsLast}
use Rattle.check_work.specs.Views.{state_of}
use Rattle.typed_tree.specs.declared.form.StrictForm.TheVariants as form
use Rattle.needs_of_members.specs.Fronts.{optional_read}
use Rattle.needs_of_members.proofs.Answered.{lifted-comes, lifted-on}
use Rattle.needs_of_members.proofs.Fronts.{optional-read, last-defined}
use Rattle.needs_of_members.proofs.reads.read_optional.Goals as goal

pub optional_read-requires : goal.optional_read-requires
optional_read-requires g c = last-defined (state_of (g.T.Types.atoms c.args.types.now) c.args.work.now) _ _ (subst (λ xs. IsLast xs c.in-Some.e.now) c.as_slice.ensures.value c.in-Some.ensures) c.shapes_of.ensures c.requires

pub returns-in-Ok-clause-stands : goal.returns-in-Ok-clause-stands
returns-in-Ok-clause-stands g c =
    lifted-on c.make_read.result _ c.lift.ensures _
    (c.make_read.ensures.stands (g.T.Types.atoms c.args.types.now) c.in-Ok.ensures.below c.requires)

pub returns-in-Ok-clause-comes : goal.returns-in-Ok-clause-comes
returns-in-Ok-clause-comes g c =
    let s = state_of (g.T.Types.atoms c.args.types.now) c.args.work.now in
    let mid = state_of (g.T.Types.atoms c.optional_read.new.types) c.args.work.now in
    let new = state_of (g.T.Types.atoms c.optional_read.new.types) c.make_read.new.work in
    optional-read s _ _ (subst (λ xs. IsLast xs c.in-Some.e.now) c.as_slice.ensures.value c.in-Some.ensures) c.shapes_of.ensures g.T.Types.passes c.args.field.now c.args.at _ new
    (next _ _ _ _ _ c.in-Ok.ty mid (over-at _ s _ _ (subst (λ text. ComesOver (optional_read g.T.Types.passes c.shapes_of.result.now (Field text) c.args.at) (g.T.Types.atoms c.args.types.now) (Ok c.in-Ok.ty) (g.T.Types.atoms c.optional_read.new.types)) c.as_text.ensures c.in-Ok.ensures.comes))
    (lifted-comes c.make_read.result _ c.lift.ensures _ mid new
    (subst (λ f. OnOk c.make_read.result (Comes (makes_strict 1 (form.Read f) (λ env t. t ≡ c.in-Ok.ty.value) c.args.at) mid (Ok tt) new)) c.optional_form.ensures
    (c.make_read.ensures.comes (g.T.Types.atoms c.optional_read.new.types)))))

pub returns-in-Err-clause-comes : goal.returns-in-Err-clause-comes
returns-in-Err-clause-comes g c =
    let s = state_of (g.T.Types.atoms c.args.types.now) c.args.work.now in
    optional-read s _ _ (subst (λ xs. IsLast xs c.in-Some.e.now) c.as_slice.ensures.value c.in-Some.ensures) c.shapes_of.ensures g.T.Types.passes c.args.field.now c.args.at _ _ (stops _ _ s _ c.in-Err.stop (over-at _ s _ _ (subst (λ text. ComesOver (optional_read g.T.Types.passes c.shapes_of.result.now (Field text) c.args.at) (g.T.Types.atoms c.args.types.now) (Err c.in-Err.stop) (g.T.Types.atoms c.optional_read.new.types)) c.as_text.ensures c.in-Err.ensures.comes)))
