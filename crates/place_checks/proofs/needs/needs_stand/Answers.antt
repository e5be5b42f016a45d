use Rattle.std.proofs.Common.{List, All, IfOk, subst, sym}
use Rattle.bal_base.specs.Stops.{IfFault}
use Rattle.need_questions.specs.declared.question.NeedQuestion.{NeedQuestion}
use Rattle.need_questions.specs.NeedStops.{FirstStops}
use Rattle.need_questions.specs.NeedsAsked.{AreAnswered, IsAskableNeed}
use Rattle.needs_of_commands.specs.Askable.{MayBeAsked}
use Rattle.place_checks.specs.Stopping.{QuestionStops}
use Rattle.place_checks.specs.Telling.{NeedsTell}
use Rattle.place_checks.proofs.Asking.{may-of}
use Rattle.place_checks.proofs.Telling.{answered-so, stopped-so}
use Rattle.place_checks.proofs.needs.needs_stand.Goals as goal

pub first_need_unmet-answer-requires-clause-askable : goal.first_need_unmet-answer-requires-clause-askable
first_need_unmet-answer-requires-clause-askable g c =
    let env = g.T.Types.atoms c.args.types.now in
    let f = c.args.found.now in
    subst (λ (qs : List NeedQuestion). All (IsAskableNeed env) qs) (sym c.as_slice.ensures.value)
    (c.questions_may_be_asked.ensures env f.questions.items (may-of (MayBeAsked env) f c.if-found.false c.requires.may))

pub returns-clause-told : goal.returns-clause-told
returns-clause-told g c = λ code unit station place asks.
    let env = g.T.Types.atoms c.args.types.now in
    let f = c.args.found.now in
    let r = c.first_need_unmet-answer.result in
    let answered = subst (λ (qs : List NeedQuestion). IfOk r (AreAnswered env qs)) c.as_slice.ensures.value c.first_need_unmet-answer.ensures.answered in
    let may = may-of (MayBeAsked code.atoms) f c.if-found.false asks.may in
    subst (λ s. IfOk s (NeedsTell code unit station place)) (sym c.as_standing.ensures)
    (answered-so code unit station place f asks.are c.if-found.false env asks.keeps c.answers_are_kept.ensures may r answered)

pub returns-clause-limit : goal.returns-clause-limit
returns-clause-limit g c = λ code unit station place asks.
    let env = g.T.Types.atoms c.args.types.now in
    let f = c.args.found.now in
    let r = c.first_need_unmet-answer.result in
    let stopped = subst (λ (qs : List NeedQuestion). IfFault r (FirstStops g.T.Types.passes c.args.known.now env qs)) c.as_slice.ensures.value c.first_need_unmet-answer.ensures.limit in
    let may = may-of (MayBeAsked code.atoms) f c.if-found.false asks.may in
    subst (λ s. IfFault s (QuestionStops g.T.Types.passes code unit station c.args.known.now place)) (sym c.as_standing.ensures)
    (stopped-so code unit station place f asks.are c.if-found.false env asks.keeps c.answers_are_kept.ensures may g.T.Types.passes c.args.known.now c.requires.known r stopped)
