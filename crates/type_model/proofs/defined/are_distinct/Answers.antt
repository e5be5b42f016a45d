use Rattle.std.proofs.Common.{sym, ap, ◌∙◌}
use Rattle.std.proofs.lemmas.Bool.{false≢true}
use Rattle.type_model.specs.declared.atoms.FieldDef.{FieldDef}
use Rattle.type_model.proofs.Names.{named_before, distinct_more}
use Rattle.type_model.proofs.defined.are_distinct.Goals as goal

pub returns-then-is_named : goal.returns-then-is_named
returns-then-is_named c =
    let f = c.index-fields-i.result in
    let n = named_before c.args.fields.now c.loop-i.i f c.loop-i-test.true c.index-fields-i.is (sym c.is_named.ensures ∙ c.if-is_named.true) in (
      λ h. absurd (false≢true h),
      λ all. absurd (all n.0 c.loop-i.i f n.1 c.loop-i-test.true (n.2 ∙ ap (λ (g : FieldDef). g.name) c.index-fields-i.is)),
    )

pub loop-i-preserved : goal.loop-i-preserved
loop-i-preserved c =
    distinct_more c.args.fields.now c.loop-i.i c.index-fields-i.result c.loop-i-test.true c.index-fields-i.is c.loop-i.invariant (sym c.is_named.ensures ∙ c.if-is_named.false)
