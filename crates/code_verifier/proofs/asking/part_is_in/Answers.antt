use Rattle.std.proofs.Common.{IfOk, List, inl, inr, refl, subst}
use Rattle.bal_base.specs.Stops.{IfFault}
use Rattle.type_model.specs.declared.answers.Answer.{Answer}
use Rattle.type_model.specs.declared.atoms.AtomDef.{AtomDef}
use Rattle.type_model.specs.declared.basic.SemType.{SemType}
use Rattle.type_model.specs.Calls.{Alone, Without}
use Rattle.type_model.specs.Inclusion.{AnswersSub}
use Rattle.type_model.specs.Parts.{StandsAt}
use Rattle.code_verifier.specs.LedTo.{AsksPart}
use Rattle.code_verifier.proofs.Answered.{left-told}
use Rattle.code_verifier.proofs.Leading.{fault-leads, stop-leads}
use Rattle.code_verifier.proofs.asking.part_is_in.Goals as goal

pub returns-in-Ok-clause-answers : goal.returns-in-Ok-clause-answers
returns-in-Ok-clause-answers g c =
    let env = g.T.Types.atoms c.args.types.now in
    left-told env c.in-Ok.part c.args.t.now (StandsAt env c.args.whole.now c.args.keys.now) c.in-Ok.ensures.shapes c.sub.result
    (subst (λ (e : List AtomDef). IfOk c.sub.result (AnswersSub e c.in-Ok.part c.args.t.now)) c.member.ensures.atoms c.sub.ensures.answer)

pub returns-in-Ok-clause-limit : goal.returns-in-Ok-clause-limit
returns-in-Ok-clause-limit g c =
    let env = g.T.Types.atoms c.args.types.now in
    fault-leads g.T.Types.passes env (AsksPart env c.args.whole.now (StandsAt env c.args.whole.now c.args.keys.now) c.args.t.now) (Without c.in-Ok.part c.args.t.now)
    (inr (c.in-Ok.part, (c.in-Ok.ensures.defined, c.in-Ok.ensures.shapes), refl)) c.sub.result
    (subst (λ (e : List AtomDef). IfFault c.sub.result (g.T.Types.passes e (Without c.in-Ok.part c.args.t.now))) c.member.ensures.atoms c.sub.ensures.limit)

pub returns-in-Err-clause-limit : goal.returns-in-Err-clause-limit
returns-in-Err-clause-limit g c =
    let env = g.T.Types.atoms c.args.types.now in
    stop-leads g.T.Types.passes env (AsksPart env c.args.whole.now (StandsAt env c.args.whole.now c.args.keys.now) c.args.t.now) (Alone c.args.whole.now) (inl refl)
    SemType Answer c.in-Err.stop c.in-Err.ensures.limit
