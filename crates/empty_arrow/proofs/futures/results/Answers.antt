use Rattle.std.proofs.Common.{◌+◌, take, get_or, subst, sym, arith}
use Rattle.std.proofs.lemmas.List.{take_all}
use Rattle.type_diagrams.specs.Conditions.{without}
use Rattle.type_diagrams.specs.Tables.{condition}
use Rattle.empty_arrow.specs.Parts.{part_of}
use Rattle.empty_arrow.specs.Results.{AreResults}
use Rattle.type_diagrams.specs.Finding.{IsFinding}
use Rattle.empty_arrow.proofs.FutureResults.{avoidance, avoidance-Gives, one_more_result}
use Rattle.type_diagrams.proofs.AskedDiagrams.{then_all}
use Rattle.type_diagrams.proofs.Tellings.{kept-IsShapeOf}
use Rattle.empty_arrow.proofs.futures.results.Goals as goal

pub returns-in_err-question-clause-extends : goal.returns-in_err-question-clause-extends
returns-in_err-question-clause-extends g c = then_all _ _ _ _ c.loop-atom.invariant.0 c.outside.ensures.extends

pub returns-in_err-result-clause-extends : goal.returns-in_err-result-clause-extends
returns-in_err-result-clause-extends g c = then_all _ _ _ _ c.loop-atom.invariant.0 c.outside.ensures.extends

pub returns-in-Held-clause-extends : goal.returns-in-Held-clause-extends
returns-in-Held-clause-extends g c = then_all _ _ _ _ c.loop-atom.invariant.0 c.outside.ensures.extends

pub returns-in-Held-clause-tells : goal.returns-in-Held-clause-tells
returns-in-Held-clause-tells g c =
    let q = c.in_ok-question.question in
    let told = subst (IsFinding (g.M.Member.kept c.args.context.now.m.now) q) c.in-Held.is c.in_ok-result.ensures in (
      q,
      told,
      avoidance c.args.context.now.env.now c.defs-defs.result.now c.defs-defs.ensures.value c.args.dia.now c.loop-atom.dia c.outside.new.dia c.args.all q c.args.unwanted.now c.loop-atom.atom-index c.part.result.now
          (omega arith) c.part.ensures.asks c.requires.diagram c.loop-atom.invariant.0.keeps c.in_ok-question.ensures.made,
    )

pub returns-in-Unknown-clause-extends : goal.returns-in-Unknown-clause-extends
returns-in-Unknown-clause-extends g c = then_all _ _ _ _ c.loop-atom.invariant.0 c.outside.ensures.extends

pub returns-in-Unknown-clause-tells : goal.returns-in-Unknown-clause-tells
returns-in-Unknown-clause-tells g c =
    let q = c.in_ok-question.question in
    let told = subst (IsFinding (g.M.Member.kept c.args.context.now.m.now) q) c.in-Unknown.is c.in_ok-result.ensures in (
      told,
      avoidance c.args.context.now.env.now c.defs-defs.result.now c.defs-defs.ensures.value c.args.dia.now c.loop-atom.dia c.outside.new.dia c.args.all q c.args.unwanted.now c.loop-atom.atom-index c.part.result.now
          (omega arith) c.part.ensures.asks c.requires.diagram c.loop-atom.invariant.0.keeps c.in_ok-question.ensures.made,
    )

pub returns-in_err-copied-clause-extends : goal.returns-in_err-copied-clause-extends
returns-in_err-copied-clause-extends g c = then_all _ _ _ _ c.loop-atom.invariant.0 c.outside.ensures.extends

pub returns-in_err-push-clause-extends : goal.returns-in_err-push-clause-extends
returns-in_err-push-clause-extends g c = then_all _ _ _ _ c.loop-atom.invariant.0 c.outside.ensures.extends

pub loop-atom-preserved : goal.loop-atom-preserved
loop-atom-preserved g c =
    let env = c.args.context.now.env.now in
    let kept = g.M.Member.kept c.args.context.now.m.now in
    let q = c.in_ok-question.question in
    let i = c.loop-atom.atom-index in
    let atom = get_or c.args.unwanted.now i 0 in
    let all = condition c.args.dia.now c.args.all in
    let told = subst (IsFinding kept q) c.in-Part.is c.in_ok-result.ensures in
    let extends = then_all _ c.args.dia.now c.loop-atom.dia c.outside.new.dia c.loop-atom.invariant.0 c.outside.ensures.extends in
    let gives = avoidance-Gives env c.defs-defs.result.now c.defs-defs.ensures.value c.args.dia.now c.loop-atom.dia c.outside.new.dia c.args.all q atom c.part.result.now c.part.ensures.asks c.requires.diagram c.loop-atom.invariant.0.keeps c.in_ok-question.ensures.made in
    let is = kept-IsShapeOf env c.args.dia.now c.outside.new.dia kept (without all (part_of env atom)) q gives c.requires.sound extends.keeps c.in-Part.result c.in_ok-copied.field-0 told c.in_ok-copied.ensures in (
      extends,
      subst (AreResults env all (take (i + 1) c.args.unwanted.now)) (sym c.in_ok-push.ensures.items)
          (one_more_result env all c.args.unwanted.now i c.loop-atom.found.items c.in_ok-copied.field-0 (omega arith) c.loop-atom.invariant.1 is),
    )

pub returns-clause-tells : goal.returns-clause-tells
returns-clause-tells g c =
    let env = c.args.context.now.env.now in
    let all = condition c.args.dia.now c.args.all in
    let done : AreResults env all c.args.unwanted.now c.loop-atom.found.items = subst (λ us. AreResults env all us c.loop-atom.found.items) (take_all c.loop-atom.atom-index c.args.unwanted.now (omega arith)) c.loop-atom.invariant.1 in
    (c.of.result, c.in_ok-whole.ensures, subst (AreResults env all c.args.unwanted.now) (sym c.of.ensures) done)
