use Rattle.std.proofs.Common.{◌≡◌, ◌∙◌, Ok, refl, subst, sym}
use Rattle.checks.specs.Checks.{Comes}
use Rattle.checks.proofs.Steps.{some_is}
use Rattle.worker_members.specs.Held.{member_held, returning_held, sem_said}
use Rattle.worker_messages.specs.inner.Asked.{asked}
use Rattle.worker_messages.proofs.Returned.{return-asked, return-free}
use Rattle.worker_messages.proofs.returns.return_passes.Goals as goal

pub returns-then-not-stands_before_message-clause-comes : goal.returns-then-not-stands_before_message-clause-comes
returns-then-not-stands_before_message-clause-comes g c =
    let env = g.T.Types.atoms c.args.types.now in
    return-free g.T.Types.passes (member_held c.args.member.now) (returning_held c.args.returned) env env (Ok tt) (sym c.stands_before_message.ensures ∙ c.if-not-stands_before_message.true)
    (some_is (λ old a. a ≡ tt) env env tt refl refl)

pub returns-in-Of-clause-comes : goal.returns-in-Of-clause-comes
returns-in-Of-clause-comes g c =
    let old = g.T.Types.atoms c.args.types.now in
    let new = g.T.Types.atoms c.gives_error.new.types in
    return-asked g.T.Types.passes (member_held c.args.member.now) (returning_held c.args.returned) old new c.gives_error.result (sym c.stands_before_message.ensures ∙ c.if-not-stands_before_message.false)
    (subst (λ ty. Comes (asked g.T.Types.passes (sem_said ty) c.args.returned.at) old c.gives_error.result new) (sym c.in-Of.is)
    (subst (λ t. Comes (asked g.T.Types.passes t.sem c.args.returned.at) old c.gives_error.result new) c.deref.ensures c.gives_error.ensures.comes))

pub returns-in-Nil-clause-comes : goal.returns-in-Nil-clause-comes
returns-in-Nil-clause-comes g c =
    let old = g.T.Types.atoms c.args.types.now in
    let new = g.T.Types.atoms c.gives_error-in-Nil.new.types in
    return-asked g.T.Types.passes (member_held c.args.member.now) (returning_held c.args.returned) old new c.gives_error-in-Nil.result (sym c.stands_before_message.ensures ∙ c.if-not-stands_before_message.false)
    (subst (λ ty. Comes (asked g.T.Types.passes (sem_said ty) c.args.returned.at) old c.gives_error-in-Nil.result new) (sym c.in-Nil.is) c.gives_error-in-Nil.ensures.comes)
