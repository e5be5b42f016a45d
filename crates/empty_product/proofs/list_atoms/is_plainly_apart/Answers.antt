use Rattle.std.proofs.Common.{◌<◌, length, get_or, refl, arith}
use Rattle.std.proofs.lemmas.Bool.{false≢true}
use Rattle.std.proofs.lemmas.Option.{slice_get-get_or, slice_get_within}
use Rattle.type_diagrams.specs.Conditions.{IsNothing, and_of}
use Rattle.type_diagrams.specs.Members.{item_of}
use Rattle.type_diagrams.specs.Tables.{condition}
use Rattle.type_diagrams.proofs.AskedDiagrams.{then_on, then_all}
use Rattle.empty_product.proofs.AtomLists.{each_more}
use Rattle.empty_product.proofs.Nothing.{common-Gives, is-nothing, not-nothing}
use Rattle.empty_product.proofs.list_atoms.is_plainly_apart.Goals as goal

pub returns-in_err-asked-clause-extends : goal.returns-in_err-asked-clause-extends
returns-in_err-asked-clause-extends c = then_all _ _ _ _ c.loop-place.invariant.0 c.item_question.ensures.extends

pub returns-in_err-common-clause-extends : goal.returns-in_err-common-clause-extends
returns-in_err-common-clause-extends c = then_on _ _ _ _ (then_all _ _ _ _ c.loop-place.invariant.0 c.item_question.ensures.extends) c.inter.ensures.extends

pub returns-then-is_nothing-clause-extends : goal.returns-then-is_nothing-clause-extends
returns-then-is_nothing-clause-extends c = then_on _ _ _ _ (then_all _ _ _ _ c.loop-place.invariant.0 c.item_question.ensures.extends) c.inter.ensures.extends

pub returns-then-is_nothing-clause-apart : goal.returns-then-is_nothing-clause-apart
returns-then-is_nothing-clause-apart c =
    let place = c.loop-place.place in
    let q = get_or c.args.fixed.now place 0 in
    let item = item_of c.args.env.now place c.args.atom in
    let lt : place < length c.args.fixed.now = omega arith in
    let mid = then_all _ c.args.dia.now c.loop-place.dia c.item_question.new.dia c.loop-place.invariant.0 c.item_question.ensures.extends in
    let all = then_on _ c.args.dia.now c.item_question.new.dia c.inter.new.self mid c.inter.ensures.extends in
    let made = common-Gives c.args.dia.now c.item_question.new.dia c.inter.new.self item c.in_ok-asked.asked q c.in_ok-common.common (c.requires.fixed place 0 lt) mid.keeps c.in_ok-asked.ensures.made c.in_ok-common.ensures.condition in
    let is = is-nothing c.inter.new.self (and_of item (condition c.args.dia.now q)) c.in_ok-common.common c.is_nothing.result made c.is_nothing.ensures in
    (λ _. (place, q, slice_get-get_or c.args.fixed.now place 0 lt, is.0 c.if-is_nothing.true), λ _. refl)

pub loop-place-preserved : goal.loop-place-preserved
loop-place-preserved c =
    let place = c.loop-place.place in
    let q = get_or c.args.fixed.now place 0 in
    let item = item_of c.args.env.now place c.args.atom in
    let lt : place < length c.args.fixed.now = omega arith in
    let mid = then_all _ c.args.dia.now c.loop-place.dia c.item_question.new.dia c.loop-place.invariant.0 c.item_question.ensures.extends in
    let all = then_on _ c.args.dia.now c.item_question.new.dia c.inter.new.self mid c.inter.ensures.extends in
    let made = common-Gives c.args.dia.now c.item_question.new.dia c.inter.new.self item c.in_ok-asked.asked q c.in_ok-common.common (c.requires.fixed place 0 lt) mid.keeps c.in_ok-asked.ensures.made c.in_ok-common.ensures.condition in
    let is = is-nothing c.inter.new.self (and_of item (condition c.args.dia.now q)) c.in_ok-common.common c.is_nothing.result made c.is_nothing.ensures in (
      all,
      each_more (λ k p. ¬ IsNothing (and_of (item_of c.args.env.now k c.args.atom) (condition c.args.dia.now p))) c.args.fixed.now place c.loop-place.invariant.1 (not-nothing (and_of item (condition c.args.dia.now q)) c.is_nothing.result is c.if-is_nothing.false),
    )

pub returns-clause-apart : goal.returns-clause-apart
returns-clause-apart c = (
  λ e. absurd (false≢true e),
  λ h. let within = slice_get_within c.args.fixed.now h.0 h.1 h.2 in
      absurd (c.loop-place.invariant.1 h.0 h.1 (omega arith) h.2 h.3),
)
