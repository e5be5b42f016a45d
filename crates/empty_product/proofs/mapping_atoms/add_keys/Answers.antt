use Rattle.std.proofs.Common.{take, get_or, sym, subst, arith}
use Rattle.std.proofs.lemmas.List.{take_all, take_more}
use Rattle.std.specs.List.{Any}
use Rattle.empty_product.specs.Keys.{HasAdded}
use Rattle.empty_product.proofs.AtomFields.{IsNamed}
use Rattle.empty_product.proofs.MappingQuestions.{more-added, none-added, same-added}
use Rattle.empty_product.proofs.mapping_atoms.add_keys.Goals as goal

pub loop-field-init : goal.loop-field-init
loop-field-init c = (c.requires, none-added (λ f key. IsNamed key f) c.args.keys.now.items)

pub loop-field-preserved : goal.loop-field-preserved
loop-field-preserved c =
    let i = c.loop-field.field-index in
    let fields = c.args.fields.now in
    let f = c.field-item.result in (
      c.in_ok-add_key.ensures.ordered,
      subst (λ fs. HasAdded (λ key. Any (IsNamed key) fs) c.args.keys.now.items c.add_key.new.keys.items) (sym (take_more fields i f (omega arith)))
          (more-added (λ g key. IsNamed key g) (take i fields) (get_or fields i f) c.args.keys.now.items c.loop-field.keys.items c.add_key.new.keys.items c.loop-field.invariant.1
          (subst (λ g. HasAdded (λ key. IsNamed key g) c.loop-field.keys.items c.add_key.new.keys.items) c.field-item.is (same-added c.field-item.result.name c.loop-field.keys.items c.add_key.new.keys.items c.in_ok-add_key.ensures.added))),
    )

pub returns-clause-added : goal.returns-clause-added
returns-clause-added c =
    subst (λ fs. HasAdded (λ key. Any (IsNamed key) fs) c.args.keys.now.items c.loop-field.keys.items) (take_all c.loop-field.field-index c.args.fields.now (omega arith)) c.loop-field.invariant.1
