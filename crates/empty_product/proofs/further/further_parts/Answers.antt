use Rattle.std.proofs.Common.{◌+◌, ◌<◌, ◌++◌, ◌∷◌, [], length, take, get_or, subst, sym, ◌∙◌, arith}
use Rattle.std.proofs.lemmas.List.{take_all}
use Rattle.type_diagrams.specs.Tables.{condition}
use Rattle.type_diagrams.proofs.AskedDiagrams.{then_all}
use Rattle.type_diagrams.proofs.Tellings.{sound-keeps}
use Rattle.empty_product.specs.Further.{AreSplit, rest_askings_of}
use Rattle.empty_product.proofs.Splitting.{none, step-Unknown, step-Part, step-Held}
use Rattle.empty_product.proofs.further.further_parts.Goals as goal
use Rattle.empty_product.proofs.further.further_parts.Goals.{in-Part+in_ok-push-in-Part, in-Held+in_ok-push-in-Held}

pub returns-in_err-question-clause-extends : goal.returns-in_err-question-clause-extends
returns-in_err-question-clause-extends g c = then_all _ _ _ _ c.loop-demand.invariant.0 c.diff.ensures.extends

pub returns-in_err-part-clause-extends : goal.returns-in_err-part-clause-extends
returns-in_err-part-clause-extends g c = then_all _ _ _ _ c.loop-demand.invariant.0 c.diff.ensures.extends

pub returns-in_err-push-in-Part-clause-extends : goal.returns-in_err-push-in-Part-clause-extends
returns-in_err-push-in-Part-clause-extends g c = then_all _ _ _ _ c.loop-demand.invariant.0 c.diff.ensures.extends

pub returns-in_err-push-in-Held-clause-extends : goal.returns-in_err-push-in-Held-clause-extends
returns-in_err-push-in-Held-clause-extends g c = then_all _ _ _ _ c.loop-demand.invariant.0 c.diff.ensures.extends

pub returns-in-Unknown-clause-extends : goal.returns-in-Unknown-clause-extends
returns-in-Unknown-clause-extends g c = then_all _ _ _ _ c.loop-demand.invariant.0 c.diff.ensures.extends

pub returns-in-Unknown-clause-tells : goal.returns-in-Unknown-clause-tells
returns-in-Unknown-clause-tells g c = λ env sound.
    let old = c.args.dia.now in
    let new = c.diff.new.self in
    let kept = g.M.Member.kept c.args.context.now.m.now in
    let on = then_all 0 old c.loop-demand.dia new c.loop-demand.invariant.0 c.diff.ensures.extends in
    step-Unknown env old c.loop-demand.dia new kept c.args.rest c.in_ok-question.question c.args.demands.now c.loop-demand.demand-index (omega arith)
    c.loop-demand.invariant.0.keeps c.diff.ensures.extends.keeps sound c.requires.rest c.requires.demands c.in_ok-question.ensures.condition.condition
    c.in_ok-part.field-0 (c.in_ok-part.ensures env (sound-keeps env old new kept on.keeps sound)) c.in-Unknown.is c.in_ok-question.ensures.condition.diagram

pub loop-demand-preserved : goal.loop-demand-preserved
loop-demand-preserved g c = (
  then_all 0 c.args.dia.now c.loop-demand.dia c.diff.new.self c.loop-demand.invariant.0 c.diff.ensures.extends,
  λ env sound.
      let old = c.args.dia.now in
      let new = c.diff.new.self in
      let kept = g.M.Member.kept c.args.context.now.m.now in
      let rest = condition old c.args.rest in
      let askings = rest_askings_of old (take (c.loop-demand.demand-index + 1) c.args.demands.now) in
      let on = then_all 0 old c.loop-demand.dia new c.loop-demand.invariant.0 c.diff.ensures.extends in
      let told = c.in_ok-part.ensures env (sound-keeps env old new kept on.keeps sound) in
      let split = c.loop-demand.invariant.1 env sound in
      let within : c.loop-demand.demand-index < length c.args.demands.now = omega arith in
      elim c.match-branch-3.branch [
        | in-Part+in_ok-push-in-Part w ↦
            subst (λ ps. AreSplit env new kept rest askings ps c.match-branch-3.staying.items) (sym ((λ i. (w.parts-is i).items) ∙ w.in_ok-push-in-Part.ensures.items))
            (subst (λ ss. AreSplit env new kept rest askings (c.loop-demand.parts.items ++ w.in-Part.part ∷ []) ss) (sym (λ i. (w.staying-is i).items))
            (step-Part env old c.loop-demand.dia new kept c.args.rest c.in_ok-question.question c.args.demands.now c.loop-demand.demand-index within
            c.loop-demand.invariant.0.keeps c.diff.ensures.extends.keeps sound c.requires.rest c.requires.demands c.in_ok-question.ensures.condition.condition
            c.in_ok-part.field-0 told c.loop-demand.parts.items c.loop-demand.staying.items split w.in-Part.part w.in-Part.is))
        | in-Held+in_ok-push-in-Held w ↦
            subst (λ ss. AreSplit env new kept rest askings c.match-branch-3.parts.items ss) (sym ((λ i. (w.staying-is i).items) ∙ w.in_ok-push-in-Held.ensures.items))
            (subst (λ ps. AreSplit env new kept rest askings ps (c.loop-demand.staying.items ++ (get_or c.args.demands.now c.loop-demand.demand-index none).atom ∷ [])) (sym (λ i. (w.parts-is i).items))
            (step-Held env old c.loop-demand.dia new kept c.args.rest c.in_ok-question.question c.args.demands.now c.loop-demand.demand-index within
            c.loop-demand.invariant.0.keeps c.diff.ensures.extends.keeps sound c.requires.rest c.requires.demands c.in_ok-question.ensures.condition.condition
            c.in_ok-part.field-0 told c.loop-demand.parts.items c.loop-demand.staying.items split w.in-Held.is))
      ],
)

pub returns-clause-tells : goal.returns-clause-tells
returns-clause-tells g c = λ env sound.
    let kept = g.M.Member.kept c.args.context.now.m.now in
    subst (λ ds. AreSplit env c.loop-demand.dia kept (condition c.args.dia.now c.args.rest) (rest_askings_of c.args.dia.now ds) c.loop-demand.parts.items c.loop-demand.staying.items)
    (take_all c.loop-demand.demand-index c.args.demands.now (omega arith)) (c.loop-demand.invariant.1 env sound)
