use Rattle.std.proofs.Common.{IfOk, List, inl, inr, refl, subst, sym}
use Rattle.bal_base.specs.Stops.{IfFault}
use Rattle.type_model.specs.declared.answers.Answer.{Answer}
use Rattle.type_model.specs.declared.atoms.AtomDef.{AtomDef}
use Rattle.type_model.specs.Calls.{Without}
use Rattle.type_model.specs.Inclusion.{AnswersSub}
use Rattle.code_verifier.specs.inner.Pairs.{TellsBelow}
use Rattle.code_verifier.specs.LedTo.{AsksEach}
use Rattle.code_verifier.proofs.Leading.{fault-leads, stop-leads}
use Rattle.code_verifier.proofs.ordered.are_below.Goals as goal

pub returns-in-Ok-clause-tells : goal.returns-in-Ok-clause-tells
returns-in-Ok-clause-tells g c =
    let same = c.sub.ensures.atoms in
    subst (λ (env : List AtomDef). IfOk c.and_second.result (TellsBelow env c.args.a.now c.args.b.now c.args.t.now)) same
    (c.and_second.ensures.tells c.args.a.now (subst (λ (env : List AtomDef). AnswersSub env c.args.a.now c.args.t.now c.in-Ok.first) (sym same) c.in-Ok.ensures.answer))

pub returns-in-Ok-clause-limit : goal.returns-in-Ok-clause-limit
returns-in-Ok-clause-limit g c =
    fault-leads g.T.Types.passes (g.T.Types.atoms c.args.types.now) (AsksEach c.args.a.now c.args.b.now c.args.t.now) (Without c.args.b.now c.args.t.now) (inr refl) c.and_second.result
    (subst (λ (env : List AtomDef). IfFault c.and_second.result (g.T.Types.passes env (Without c.args.b.now c.args.t.now))) c.sub.ensures.atoms c.and_second.ensures.limit)

pub returns-in-Err-clause-limit : goal.returns-in-Err-clause-limit
returns-in-Err-clause-limit g c =
    stop-leads g.T.Types.passes (g.T.Types.atoms c.args.types.now) (AsksEach c.args.a.now c.args.b.now c.args.t.now) (Without c.args.a.now c.args.t.now) (inl refl) Answer Answer c.in-Err.stop c.in-Err.ensures.limit
