use Rattle.std.proofs.Common.{◌∙◌, All, List, subst, sym}
use Rattle.std.proofs.lemmas.List.{take_all}
use Rattle.type_model.specs.declared.answers.Answer.{Answer}
use Rattle.type_model.specs.declared.atoms.AtomDef.{AtomDef}
use Rattle.type_model.specs.declared.atoms.FieldDef.{FieldDef}
use Rattle.type_model.specs.Defined.{IsDefined}
use Rattle.pair_questions.specs.Fitting.{AsksField, AsksNamed, FitsField, TellsField}
use Rattle.pair_questions.proofs.MemberKeys.{fits-more, one-unfit}
use Rattle.pair_questions.proofs.Stopping.{handed-on}
use Rattle.pair_questions.proofs.fitting.fits_named.Goals as goal

pub fits_field-requires-clause-value : goal.fits_field-requires-clause-value
fits_field-requires-clause-value g c = subst (λ (env : List AtomDef). IsDefined env c.args.pair.value.now) (sym c.loop-field.invariant.0) c.requires.value

pub fits_field-requires-clause-field : goal.fits_field-requires-clause-field
fits_field-requires-clause-field g c =
    let f = c.field-item.result in
    let old = g.T.Types.atoms c.args.types.now in
    let own = subst (λ (x : FieldDef). IsDefined old x.ty.sem) (sym c.field-item.is) (c.requires.members.1 c.loop-field.field-index f c.loop-field-test.true) in
    subst (λ (env : List AtomDef). IsDefined env f.ty.sem) (sym c.loop-field.invariant.0) own

pub loop-field-preserved : goal.loop-field-preserved
loop-field-preserved g c =
    let old = g.T.Types.atoms c.args.types.now in
    let f = c.field-item.result in
    let told = subst (λ (env : List AtomDef). TellsField env c.args.pair f c.in_ok-shape.field-0) c.loop-field.invariant.0 c.in_ok-shape.ensures.told in (
      c.fits_field.ensures.atoms ∙ c.loop-field.invariant.0,
      fits-more old c.args.pair c.args.members.fields.now c.loop-field.field-index f c.loop-field-test.true c.field-item.is c.loop-field.invariant.1 c.in_ok-shape.field-0 c.in_default.is told,
    )

pub returns-clause-told : goal.returns-clause-told
returns-clause-told g c =
    subst (λ (fs : List FieldDef). All (FitsField (g.T.Types.atoms c.args.types.now) c.args.pair) fs) (take_all c.loop-field.field-index c.args.members.fields.now c.loop-field-test.false) c.loop-field.invariant.1

pub returns-in-No-clause-told : goal.returns-in-No-clause-told
returns-in-No-clause-told g c =
    let old = g.T.Types.atoms c.args.types.now in
    let f = c.field-item.result in
    let told = subst (λ (env : List AtomDef). TellsField env c.args.pair f c.in_ok-shape.field-0) c.loop-field.invariant.0 c.in_ok-shape.ensures.told in
    one-unfit old c.args.pair c.args.members.fields.now c.loop-field.field-index f c.loop-field-test.true c.field-item.is c.in-No.shape c.in_ok-shape.field-0 c.in-No.is told

pub returns-in_err-shape-clause-limit : goal.returns-in_err-shape-clause-limit
returns-in_err-shape-clause-limit g c =
    let old = g.T.Types.atoms c.args.types.now in
    let f = c.field-item.result in
    handed-on g.T.Types.passes Answer Answer (λ env asked. AsksField env c.args.pair f asked) (AsksNamed old c.args.members c.args.pair) old (g.T.Types.atoms c.loop-field.types) c.loop-field.invariant.0
    (λ asked leads. (f, (c.loop-field.field-index, c.loop-field-test.true, sym c.field-item.is), leads)) _ _ c.from_residual.ensures c.in_err-shape.ensures.limit
