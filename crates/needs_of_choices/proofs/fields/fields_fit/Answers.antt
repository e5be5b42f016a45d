use Rattle.std.proofs.Common.{◌<◌, ◌≤◌, ◌∙◌, arith, length, subst, sym}
use Rattle.check_words.specs.Stands.{PartBelow}
use Rattle.check_words.specs.Words.{Atoms, sem}
use Rattle.needs_of_choices.specs.ByKeys.{IsFieldsOf}
use Rattle.needs_of_choices.proofs.FieldByField.{field-here, field-of, field-stops, next-left, none-left}
use Rattle.needs_of_choices.proofs.fields.fields_fit.Goals as goal

pub field_fits-requires : goal.field_fits-requires
field_fits-requires g c = subst (λ (env : Atoms). PartBelow (length env) c.args.member.value.now) (sym c.loop-place.invariant.0) c.requires

pub returns-in-Err-clause-comes : goal.returns-in-Err-clause-comes
returns-in-Err-clause-comes g c = λ fields h many.
    let inv = c.loop-place.invariant in
    let lt : c.loop-place.place < length fields = omega (arith, many, c.loop-place-test.true) in
    let f = field-here fields c.loop-place.place lt in
    field-stops g.T.Types.passes (sem c.args.member.key.now) c.args.member.value.now c.args.member.at fields (g.T.Types.atoms c.args.types.now) c.loop-place.place f.0 f.1 (inv.1 fields h many) _ _ inv.0
    c.field_fits.ensures.atoms c.in-Err.stop
    (c.in-Err.ensures.comes f.0 (field-of (g.T.Types.atoms c.loop-place.types) c.args.member.atom fields c.loop-place.place f.0 (subst (λ (env : Atoms). IsFieldsOf env c.args.member.atom fields) (sym inv.0) h) f.1))

pub loop-place-preserved : goal.loop-place-preserved
loop-place-preserved g c =
    let inv = c.loop-place.invariant in (
      c.field_fits.ensures.atoms ∙ inv.0,
      λ fields h many.
          let lt : c.loop-place.place < length fields = omega (arith, many, c.loop-place-test.true) in
          let f = field-here fields c.loop-place.place lt in
          next-left g.T.Types.passes (sem c.args.member.key.now) c.args.member.value.now c.args.member.at fields (g.T.Types.atoms c.args.types.now) c.loop-place.place f.0 f.1 (inv.1 fields h many) _ _ inv.0
          c.field_fits.ensures.atoms
          (c.in-Ok.ensures.comes f.0 (field-of (g.T.Types.atoms c.loop-place.types) c.args.member.atom fields c.loop-place.place f.0 (subst (λ (env : Atoms). IsFieldsOf env c.args.member.atom fields) (sym inv.0) h) f.1)),
    )

pub returns-clause-comes : goal.returns-clause-comes
returns-clause-comes g c = λ fields h many.
    let inv = c.loop-place.invariant in
    let le : length fields ≤ c.loop-place.place = omega (arith, many, c.loop-place-test.false) in
    none-left g.T.Types.passes (sem c.args.member.key.now) c.args.member.value.now c.args.member.at fields (g.T.Types.atoms c.args.types.now) c.loop-place.place _ le inv.0 (inv.1 fields h many)
