use Rattle.std.specs.Prelude.{not}
use Rattle.type_model.specs.declared.atoms.FieldDef.{FieldDef}
use Rattle.code_needs.specs.Combining.{need, only_if}
use Rattle.code_needs.specs.Needs.{Names}
use Rattle.pair_questions.specs.Pairs.{pairs_of}
use Rattle.needs_of_rows.proofs.Finding.{found-nothing}
use Rattle.needs_of_rows.proofs.ListNeeds.{each-more, each-whole}
use Rattle.needs_of_rows.proofs.structures.names_required.Goals as goal

pub loop-field-init : goal.loop-field-init
loop-field-init c =
    found-nothing _

pub loop-field-preserved : goal.loop-field-preserved
loop-field-preserved c =
    each-more (λ (f : FieldDef). only_if (not f.optional) (need (Names (pairs_of c.args.pairs.now) f.name))) c.args.fields.now c.loop-field.field-index c.field-item.result _ _ _ c.loop-field-test.true c.field-item.is c.loop-field.invariant c.name_required.ensures

pub returns : goal.returns
returns c =
    each-whole (λ (f : FieldDef). only_if (not f.optional) (need (Names (pairs_of c.args.pairs.now) f.name))) c.args.fields.now c.loop-field.field-index _ _ c.loop-field-test.false c.loop-field.invariant
