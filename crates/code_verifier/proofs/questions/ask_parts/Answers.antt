use Rattle.std.proofs.Common.{IfOk, subst, sym}
use Rattle.bal_base.specs.Stops.{IfFault}
use Rattle.code_verifier.specs.declared.questions.OfParts.{OfParts}
use Rattle.code_verifier.specs.Asked.{Answers}
use Rattle.code_verifier.specs.LedTo.{SomePasses}
use Rattle.code_verifier.specs.Questions.{PartsLeadTo, need_of_parts}
use Rattle.code_verifier.proofs.questions.ask_parts.Goals as goal

pub returns-in-PartIn-clause-answers : goal.returns-in-PartIn-clause-answers
returns-in-PartIn-clause-answers g c = subst (λ (q : OfParts). IfOk c.part_is_in.result (Answers (g.T.Types.atoms c.args.types.now) (need_of_parts q))) (sym c.in-PartIn.is) c.part_is_in.ensures.answers

pub returns-in-PartIn-clause-limit : goal.returns-in-PartIn-clause-limit
returns-in-PartIn-clause-limit g c =
    let env = g.T.Types.atoms c.args.types.now in
    subst (λ (q : OfParts). IfFault c.part_is_in.result (SomePasses g.T.Types.passes env (PartsLeadTo env q))) (sym c.in-PartIn.is) c.part_is_in.ensures.limit

pub returns-in-PartHas-clause-answers : goal.returns-in-PartHas-clause-answers
returns-in-PartHas-clause-answers g c = subst (λ (q : OfParts). IfOk c.part_has.result (Answers (g.T.Types.atoms c.args.types.now) (need_of_parts q))) (sym c.in-PartHas.is) c.part_has.ensures.answers

pub returns-in-PartHas-clause-limit : goal.returns-in-PartHas-clause-limit
returns-in-PartHas-clause-limit g c =
    let env = g.T.Types.atoms c.args.types.now in
    subst (λ (q : OfParts). IfFault c.part_has.result (SomePasses g.T.Types.passes env (PartsLeadTo env q))) (sym c.in-PartHas.is) c.part_has.ensures.limit
