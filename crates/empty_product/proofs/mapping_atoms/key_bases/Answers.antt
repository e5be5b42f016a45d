use Rattle.std.proofs.Common.{◌↔◌, ◌+◌, [], take, map, IsTrue, sym, subst, arith}
use Rattle.std.proofs.lemmas.List.{take_all}
use Rattle.std.specs.List.{Any}
use Rattle.type_diagrams.specs.Conditions.{asks}
use Rattle.type_diagrams.specs.Members.{Requires, member_of}
use Rattle.type_diagrams.specs.Whole.{Gives}
use Rattle.type_diagrams.proofs.AskedDiagrams.{then_all}
use Rattle.empty_product.specs.declared.mapping_atoms.KeyBase.{KeyBase}
use Rattle.empty_product.specs.Keys.{HasNamedKeys}
use Rattle.empty_product.specs.KeyBases.{IsBase}
use Rattle.empty_product.proofs.MappingQuestions.{AreBasesAt, all-bases, more-bases}
use Rattle.empty_product.proofs.mapping_atoms.key_bases.Goals as goal

pub returns-in_err-question-clause-extends : goal.returns-in_err-question-clause-extends
returns-in_err-question-clause-extends c = then_all _ _ _ _ c.loop-key.invariant.0 c.members_question.ensures.extends

pub returns-in_err-push-clause-extends : goal.returns-in_err-push-clause-extends
returns-in_err-push-clause-extends c = then_all _ _ _ _ c.loop-key.invariant.0 c.members_question.ensures.extends

pub loop-key-preserved : goal.loop-key-preserved
loop-key-preserved c =
    let env = c.args.env.now in
    let wanted = c.args.wanted.now in
    let keys = c.as_slice-keys.result.now in
    let new = c.members_question.new.dia in
    let key = c.key-item.result in
    let q = c.in_ok-question.question in
    let b : KeyBase = record { key = c.share.result; question = q; required = c.any_requires-required.result } in
    let is : IsBase env new wanted b = record {
      question = subst (λ k. Gives new (asks (map (member_of env k) wanted) []) q) (sym c.share.ensures) c.in_ok-question.ensures.made;
      required = subst (λ k. IsTrue c.any_requires-required.result ↔ Any (Requires env k) wanted) (sym c.share.ensures)
          (subst (λ e. IsTrue c.any_requires-required.result ↔ Any (Requires e key) wanted) c.defs-defs.ensures.value c.any_requires-required.ensures);
    } in (
      then_all _ _ _ _ c.loop-key.invariant.0 c.members_question.ensures.extends,
      subst (AreBasesAt env new wanted (take (c.loop-key.key-index + 1) keys)) (sym c.in_ok-push.ensures.items)
          (more-bases env wanted keys c.loop-key.bases.items c.loop-key.dia new c.members_question.ensures.extends.keeps c.loop-key.key-index key b (omega arith) c.key-item.is c.share.ensures is c.loop-key.invariant.1),
    )

pub returns-clause-bases : goal.returns-clause-bases
returns-clause-bases c =
    let env = c.args.env.now in
    let wanted = c.args.wanted.now in
    let keys = c.as_slice-keys.result.now in
    let named = subst (HasNamedKeys env wanted) (sym c.as_slice-keys.ensures.value) (subst (λ e. HasNamedKeys e wanted c.in_ok-named.named.items) c.defs-defs.ensures.value c.in_ok-named.ensures) in
    all-bases env wanted keys c.loop-key.bases.items c.loop-key.dia named
    (subst (λ ks. AreBasesAt env c.loop-key.dia wanted ks c.loop-key.bases.items) (take_all c.loop-key.key-index keys (omega arith)) c.loop-key.invariant.1)
