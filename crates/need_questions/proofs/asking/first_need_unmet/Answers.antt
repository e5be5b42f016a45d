use Rattle.std.proofs.Common.{All, Option, subst, sym}
use Rattle.bal_base.specs.declared.shape.Shape.{Shape}
use Rattle.type_model.specs.declared.answers.Answer.{Answer}
use Rattle.std.proofs.lemmas.List.{take_all}
use Rattle.atom_questions.proofs.Stops.{kept-on}
use Rattle.need_questions.specs.declared.question.NeedQuestion.{NeedQuestion}
use Rattle.need_questions.specs.NeedsAsked.{IsAskableNeed, NeedsMet}
use Rattle.need_questions.proofs.NeedsKeptOn.{all-askable, all-met-more, first-stops, known-kept, need-back, one-unmet}
use Rattle.need_questions.proofs.asking.first_need_unmet.Goals as goal

pub ask_need-requires-clause-known : goal.ask_need-requires-clause-known
ask_need-requires-clause-known g c = known-kept (g.T.Types.atoms c.args.types.now) _ c.loop-question.invariant.0 c.args.known.now c.requires.known

pub ask_need-requires-clause-askable : goal.ask_need-requires-clause-askable
ask_need-requires-clause-askable g c =
    let all = all-askable (g.T.Types.atoms c.args.types.now) (g.T.Types.atoms c.loop-question.types) c.loop-question.invariant.0 c.args.questions.now c.requires.askable in
    subst (λ (q : NeedQuestion). IsAskableNeed (g.T.Types.atoms c.loop-question.types) q) (sym c.question-item.is) (all c.loop-question.question-index c.question-item.result c.loop-question-test.true)

pub loop-question-preserved : goal.loop-question-preserved
loop-question-preserved g c =
    let old = g.T.Types.atoms c.args.types.now in
    let q = c.question-item.result in
    let askable = subst (λ (p : NeedQuestion). IsAskableNeed old p) (sym c.question-item.is) (c.requires.askable c.loop-question.question-index q c.loop-question-test.true) in
    let back = need-back old (g.T.Types.atoms c.loop-question.types) c.loop-question.invariant.0 q askable _ c.in_ok-shape.ensures.answers in (
      kept-on old _ _ c.loop-question.invariant.0 c.ask_need.ensures.kept,
      all-met-more old c.args.questions.now c.loop-question.question-index q c.loop-question-test.true c.question-item.is c.loop-question.invariant.1 _ c.in_default.is back,
    )

pub returns-clause-answered : goal.returns-clause-answered
returns-clause-answered g c =
    subst (λ qs. All (NeedsMet (g.T.Types.atoms c.args.types.now)) qs) (take_all c.loop-question.question-index c.args.questions.now c.loop-question-test.false) c.loop-question.invariant.1

pub returns-in_err-shape-clause-kept : goal.returns-in_err-shape-clause-kept
returns-in_err-shape-clause-kept g c = kept-on (g.T.Types.atoms c.args.types.now) _ _ c.loop-question.invariant.0 c.ask_need.ensures.kept

pub returns-in_err-shape-clause-limit : goal.returns-in_err-shape-clause-limit
returns-in_err-shape-clause-limit g c =
    first-stops (g.T.Types.atoms c.args.types.now) c.args.questions.now c.loop-question.question-index c.question-item.result c.loop-question-test.true c.question-item.is g.T.Types.passes c.args.known.now
    (g.T.Types.atoms c.loop-question.types) c.loop-question.invariant.0 c.loop-question.invariant.1 Answer (Option Shape) _ _ c.from_residual.ensures c.in_err-shape.ensures.limit

pub returns-in-No-clause-kept : goal.returns-in-No-clause-kept
returns-in-No-clause-kept g c = kept-on (g.T.Types.atoms c.args.types.now) _ _ c.loop-question.invariant.0 c.ask_need.ensures.kept

pub returns-in-No-clause-answered : goal.returns-in-No-clause-answered
returns-in-No-clause-answered g c =
    let old = g.T.Types.atoms c.args.types.now in
    let q = c.question-item.result in
    let askable = subst (λ (p : NeedQuestion). IsAskableNeed old p) (sym c.question-item.is) (c.requires.askable c.loop-question.question-index q c.loop-question-test.true) in
    let back = need-back old (g.T.Types.atoms c.loop-question.types) c.loop-question.invariant.0 q askable _ c.in_ok-shape.ensures.answers in
    one-unmet old c.args.questions.now c.loop-question.question-index q c.loop-question-test.true c.question-item.is c.in-No.shape c.loop-question.invariant.1 _ c.in-No.is back
