use Rattle.std.proofs.Common.{IfOk, subst, sym}
use Rattle.bal_base.specs.Stops.{IfFault}
use Rattle.code_verifier.specs.declared.questions.OfMembers.{OfMembers}
use Rattle.code_verifier.specs.Asked.{Answers}
use Rattle.code_verifier.specs.LedTo.{SomePasses}
use Rattle.code_verifier.specs.Questions.{MembersLeadTo, need_of_members}
use Rattle.code_verifier.proofs.questions.ask_members.Goals as goal

pub returns-in-ItemIn-clause-answers : goal.returns-in-ItemIn-clause-answers
returns-in-ItemIn-clause-answers g c = subst (λ (q : OfMembers). IfOk c.item_is_in.result (Answers (g.T.Types.atoms c.args.types.now) (need_of_members q))) (sym c.in-ItemIn.is) c.item_is_in.ensures.answers

pub returns-in-ItemIn-clause-limit : goal.returns-in-ItemIn-clause-limit
returns-in-ItemIn-clause-limit g c =
    let env = g.T.Types.atoms c.args.types.now in
    subst (λ (q : OfMembers). IfFault c.item_is_in.result (SomePasses g.T.Types.passes env (MembersLeadTo env q))) (sym c.in-ItemIn.is) c.item_is_in.ensures.limit

pub returns-in-ItemHas-clause-answers : goal.returns-in-ItemHas-clause-answers
returns-in-ItemHas-clause-answers g c = subst (λ (q : OfMembers). IfOk c.item_has.result (Answers (g.T.Types.atoms c.args.types.now) (need_of_members q))) (sym c.in-ItemHas.is) c.item_has.ensures.answers

pub returns-in-ItemHas-clause-limit : goal.returns-in-ItemHas-clause-limit
returns-in-ItemHas-clause-limit g c =
    let env = g.T.Types.atoms c.args.types.now in
    subst (λ (q : OfMembers). IfFault c.item_has.result (SomePasses g.T.Types.passes env (MembersLeadTo env q))) (sym c.in-ItemHas.is) c.item_has.ensures.limit

pub returns-in-MemberIn-clause-answers : goal.returns-in-MemberIn-clause-answers
returns-in-MemberIn-clause-answers g c = subst (λ (q : OfMembers). IfOk c.member_is_in.result (Answers (g.T.Types.atoms c.args.types.now) (need_of_members q))) (sym c.in-MemberIn.is) c.member_is_in.ensures.answers

pub returns-in-MemberIn-clause-limit : goal.returns-in-MemberIn-clause-limit
returns-in-MemberIn-clause-limit g c =
    let env = g.T.Types.atoms c.args.types.now in
    subst (λ (q : OfMembers). IfFault c.member_is_in.result (SomePasses g.T.Types.passes env (MembersLeadTo env q))) (sym c.in-MemberIn.is) c.member_is_in.ensures.limit

pub returns-in-MemberHas-clause-answers : goal.returns-in-MemberHas-clause-answers
returns-in-MemberHas-clause-answers g c = subst (λ (q : OfMembers). IfOk c.member_has.result (Answers (g.T.Types.atoms c.args.types.now) (need_of_members q))) (sym c.in-MemberHas.is) c.member_has.ensures.answers

pub returns-in-MemberHas-clause-limit : goal.returns-in-MemberHas-clause-limit
returns-in-MemberHas-clause-limit g c =
    let env = g.T.Types.atoms c.args.types.now in
    subst (λ (q : OfMembers). IfFault c.member_has.result (SomePasses g.T.Types.passes env (MembersLeadTo env q))) (sym c.in-MemberHas.is) c.member_has.ensures.limit
