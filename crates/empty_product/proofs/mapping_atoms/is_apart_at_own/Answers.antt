use Rattle.std.proofs.Common.{◌≡◌, Some, refl, sym, subst, ◌∙◌, arith}
use Rattle.std.proofs.lemmas.Bool.{false≢true}
use Rattle.std.proofs.lemmas.List.{take_all}
use Rattle.std.specs.List.{Any}
use Rattle.std.specs.Option.{option_copied}
use Rattle.type_diagrams.specs.Atoms.{parts_of, mapping_parts}
use Rattle.type_diagrams.proofs.AskedDiagrams.{then_all}
use Rattle.empty_product.specs.KeyBases.{IsApartBy}
use Rattle.empty_product.proofs.MappingQuestions.{fields-are, none-more, some-more}
use Rattle.empty_product.proofs.mapping_atoms.is_apart_at_own.Goals as goal

pub returns-in_err-is_apart_by-clause-extends : goal.returns-in_err-is_apart_by-clause-extends
returns-in_err-is_apart_by-clause-extends c = then_all _ _ _ _ c.loop-field.invariant.0 c.is_apart_by.ensures.extends

pub returns-then-branch-clause-extends : goal.returns-then-branch-clause-extends
returns-then-branch-clause-extends c = then_all _ _ _ _ c.loop-field.invariant.0 c.is_apart_by.ensures.extends

pub returns-then-branch-clause-apart : goal.returns-then-branch-clause-apart
returns-then-branch-clause-apart c =
    let env = c.args.env.now in
    let fields = c.mapping_parts.result.fields.now in
    let parts = subst (λ e. parts_of mapping_parts e c.args.atom ≡ Some (fields, option_copied c.mapping_parts.result.rest)) c.defs.ensures.value c.mapping_parts.ensures in
    let some = some-more (IsApartBy env c.args.wanted.now c.args.atom) fields c.loop-field.field-index c.field-item.result (omega arith) c.field-item.is (c.in_ok-is_apart_by.ensures.apart.0 c.if-branch.true) in
    (λ _. subst (Any (IsApartBy env c.args.wanted.now c.args.atom)) (sym (fields-are env c.args.atom fields (option_copied c.mapping_parts.result.rest) parts)) some, λ _. refl)

pub loop-field-preserved : goal.loop-field-preserved
loop-field-preserved c = (
  then_all _ _ _ _ c.loop-field.invariant.0 c.is_apart_by.ensures.extends,
  none-more (IsApartBy c.args.env.now c.args.wanted.now c.args.atom) c.mapping_parts.result.fields.now c.loop-field.field-index c.field-item.result (omega arith) c.field-item.is c.loop-field.invariant.1
      (λ h. false≢true (sym c.if-branch.false ∙ c.in_ok-is_apart_by.ensures.apart.1 h)),
)

pub returns-clause-apart : goal.returns-clause-apart
returns-clause-apart c =
    let env = c.args.env.now in
    let fields = c.mapping_parts.result.fields.now in
    let parts = subst (λ e. parts_of mapping_parts e c.args.atom ≡ Some (fields, option_copied c.mapping_parts.result.rest)) c.defs.ensures.value c.mapping_parts.ensures in
    let none = subst (λ fs. Any (IsApartBy env c.args.wanted.now c.args.atom) fs → ⊥) (take_all c.loop-field.field-index fields (omega arith)) c.loop-field.invariant.1 in
    (λ h. absurd (false≢true h), λ h. absurd (none (subst (Any (IsApartBy env c.args.wanted.now c.args.atom)) (fields-are env c.args.atom fields (option_copied c.mapping_parts.result.rest) parts) h)))
