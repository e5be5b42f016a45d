use Rattle.std.proofs.Common.{IfOk, subst, sym}
use Rattle.bal_base.specs.Stops.{IfFault}
use Rattle.need_questions.specs.declared.question.NeedQuestion.{NeedQuestion}
use Rattle.need_questions.specs.NeedsAsked.{AnswersNeeds, needs_of}
use Rattle.need_questions.specs.NeedStops.{NeedStops}
use Rattle.need_questions.proofs.NeedsAnswered.{added-of, both-answered, kept-same, one-answered}
use Rattle.need_questions.proofs.asking.ask_need.Goals as goal

pub returns-in-Plain-clause-kept : goal.returns-in-Plain-clause-kept
returns-in-Plain-clause-kept g c = kept-same (g.T.Types.atoms c.args.types.now) _ c.ask_plain.ensures.atoms

pub returns-in-Plain-clause-added : goal.returns-in-Plain-clause-added
returns-in-Plain-clause-added g c = added-of (g.T.Types.atoms c.args.types.now) c.args.question _ c.in-Plain.is _ c.ask_plain.ensures.atoms

pub returns-in-Plain-clause-answers : goal.returns-in-Plain-clause-answers
returns-in-Plain-clause-answers g c =
    let env = g.T.Types.atoms c.args.types.now in
    subst (λ (q : NeedQuestion). IfOk c.ask_plain.result (AnswersNeeds env (needs_of q))) (sym c.in-Plain.is) (one-answered env _ c.ask_plain.result c.ask_plain.ensures.answers)

pub returns-in-Plain-clause-limit : goal.returns-in-Plain-clause-limit
returns-in-Plain-clause-limit g c =
    subst (λ (q : NeedQuestion). IfFault c.ask_plain.result (NeedStops g.T.Types.passes c.args.known.now (g.T.Types.atoms c.args.types.now) q)) (sym c.in-Plain.is) c.ask_plain.ensures.limit

pub returns-in-HasField-clause-added : goal.returns-in-HasField-clause-added
returns-in-HasField-clause-added g c = added-of (g.T.Types.atoms c.args.types.now) c.args.question _ c.in-HasField.is _ c.has_field.ensures.added

pub returns-in-HasField-clause-answers : goal.returns-in-HasField-clause-answers
returns-in-HasField-clause-answers g c =
    let env = g.T.Types.atoms c.args.types.now in
    subst (λ (q : NeedQuestion). IfOk c.has_field.result (AnswersNeeds env (needs_of q))) (sym c.in-HasField.is) (one-answered env _ c.has_field.result c.has_field.ensures.answers)

pub returns-in-HasField-clause-limit : goal.returns-in-HasField-clause-limit
returns-in-HasField-clause-limit g c =
    subst (λ (q : NeedQuestion). IfFault c.has_field.result (NeedStops g.T.Types.passes c.args.known.now (g.T.Types.atoms c.args.types.now) q)) (sym c.in-HasField.is) c.has_field.ensures.limit

pub returns-in-FitsFields-clause-kept : goal.returns-in-FitsFields-clause-kept
returns-in-FitsFields-clause-kept g c = kept-same (g.T.Types.atoms c.args.types.now) _ c.ask_fits.ensures.atoms

pub returns-in-FitsFields-clause-added : goal.returns-in-FitsFields-clause-added
returns-in-FitsFields-clause-added g c = added-of (g.T.Types.atoms c.args.types.now) c.args.question _ c.in-FitsFields.is _ c.ask_fits.ensures.atoms

pub returns-in-FitsFields-clause-answers : goal.returns-in-FitsFields-clause-answers
returns-in-FitsFields-clause-answers g c =
    let env = g.T.Types.atoms c.args.types.now in
    subst (λ (q : NeedQuestion). IfOk c.ask_fits.result (AnswersNeeds env (needs_of q))) (sym c.in-FitsFields.is) (one-answered env _ c.ask_fits.result c.ask_fits.ensures.answers)

pub returns-in-FitsFields-clause-limit : goal.returns-in-FitsFields-clause-limit
returns-in-FitsFields-clause-limit g c =
    subst (λ (q : NeedQuestion). IfFault c.ask_fits.result (NeedStops g.T.Types.passes c.args.known.now (g.T.Types.atoms c.args.types.now) q)) (sym c.in-FitsFields.is) c.ask_fits.ensures.limit

pub returns-in-Names-clause-kept : goal.returns-in-Names-clause-kept
returns-in-Names-clause-kept g c = kept-same (g.T.Types.atoms c.args.types.now) _ c.ask_names.ensures.atoms

pub returns-in-Names-clause-added : goal.returns-in-Names-clause-added
returns-in-Names-clause-added g c = added-of (g.T.Types.atoms c.args.types.now) c.args.question _ c.in-Names.is _ c.ask_names.ensures.atoms

pub returns-in-Names-clause-answers : goal.returns-in-Names-clause-answers
returns-in-Names-clause-answers g c =
    let env = g.T.Types.atoms c.args.types.now in
    subst (λ (q : NeedQuestion). IfOk c.ask_names.result (AnswersNeeds env (needs_of q))) (sym c.in-Names.is) (one-answered env _ c.ask_names.result c.ask_names.ensures.answers)

pub returns-in-Names-clause-limit : goal.returns-in-Names-clause-limit
returns-in-Names-clause-limit g c =
    subst (λ (q : NeedQuestion). IfFault c.ask_names.result (NeedStops g.T.Types.passes c.args.known.now (g.T.Types.atoms c.args.types.now) q)) (sym c.in-Names.is) c.ask_names.ensures.limit

pub returns-in-HasErrorsOf-clause-added : goal.returns-in-HasErrorsOf-clause-added
returns-in-HasErrorsOf-clause-added g c = added-of (g.T.Types.atoms c.args.types.now) c.args.question _ c.in-HasErrorsOf.is _ c.has_errors.ensures.added

pub returns-in-HasErrorsOf-clause-answers : goal.returns-in-HasErrorsOf-clause-answers
returns-in-HasErrorsOf-clause-answers g c =
    let env = g.T.Types.atoms c.args.types.now in
    subst (λ (q : NeedQuestion). IfOk c.has_errors.result (AnswersNeeds env (needs_of q))) (sym c.in-HasErrorsOf.is) (one-answered env _ c.has_errors.result c.has_errors.ensures.answers)

pub returns-in-HasErrorsOf-clause-limit : goal.returns-in-HasErrorsOf-clause-limit
returns-in-HasErrorsOf-clause-limit g c =
    subst (λ (q : NeedQuestion). IfFault c.has_errors.result (NeedStops g.T.Types.passes c.args.known.now (g.T.Types.atoms c.args.types.now) q)) (sym c.in-HasErrorsOf.is) c.has_errors.ensures.limit

pub returns-in-Gives-clause-added : goal.returns-in-Gives-clause-added
returns-in-Gives-clause-added g c = added-of (g.T.Types.atoms c.args.types.now) c.args.question _ c.in-Gives.is _ c.gives.ensures.added

pub returns-in-Gives-clause-answers : goal.returns-in-Gives-clause-answers
returns-in-Gives-clause-answers g c =
    let env = g.T.Types.atoms c.args.types.now in
    subst (λ (q : NeedQuestion). IfOk c.gives.result (AnswersNeeds env (needs_of q))) (sym c.in-Gives.is) (both-answered env _ _ c.gives.result c.gives.ensures.answers)

pub returns-in-Gives-clause-limit : goal.returns-in-Gives-clause-limit
returns-in-Gives-clause-limit g c =
    subst (λ (q : NeedQuestion). IfFault c.gives.result (NeedStops g.T.Types.passes c.args.known.now (g.T.Types.atoms c.args.types.now) q)) (sym c.in-Gives.is) c.gives.ensures.limit

pub returns-in-GivesFuture-clause-added : goal.returns-in-GivesFuture-clause-added
returns-in-GivesFuture-clause-added g c = added-of (g.T.Types.atoms c.args.types.now) c.args.question _ c.in-GivesFuture.is _ c.gives_future.ensures.added

pub returns-in-GivesFuture-clause-answers : goal.returns-in-GivesFuture-clause-answers
returns-in-GivesFuture-clause-answers g c =
    let env = g.T.Types.atoms c.args.types.now in
    subst (λ (q : NeedQuestion). IfOk c.gives_future.result (AnswersNeeds env (needs_of q))) (sym c.in-GivesFuture.is) (both-answered env _ _ c.gives_future.result c.gives_future.ensures.answers)

pub returns-in-GivesFuture-clause-limit : goal.returns-in-GivesFuture-clause-limit
returns-in-GivesFuture-clause-limit g c =
    subst (λ (q : NeedQuestion). IfFault c.gives_future.result (NeedStops g.T.Types.passes c.args.known.now (g.T.Types.atoms c.args.types.now) q)) (sym c.in-GivesFuture.is) c.gives_future.ensures.limit
