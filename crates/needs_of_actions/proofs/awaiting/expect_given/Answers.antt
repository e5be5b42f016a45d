use Rattle.std.proofs.Common.{◌∙◌, Err, Ok, ap, subst}
use Rattle.checks.specs.Checks.{Comes}
use Rattle.expr_needs.specs.declared.kind.Kind.TheVariants.{AnyFuture}
use Rattle.check_kinds.specs.Over.{ComesOver}
use Rattle.check_words.specs.State.{IsLast}
use Rattle.check_words.specs.Words.{OfKind, is_within}
use Rattle.check_work.specs.Views.{state_of}
use Rattle.needs_of_actions.specs.Futures.{wants_part}
use Rattle.needs_of_actions.proofs.Futures.{future-wanted, no-future}
use Rattle.needs_of_actions.proofs.awaiting.expect_given.Goals as goal

pub returns-in-Ok-clause-comes : goal.returns-in-Ok-clause-comes
returns-in-Ok-clause-comes g c =
    let env = g.T.Types.atoms c.args.types.now in
    let s = state_of env c.args.work.now in
    future-wanted g.T.Types.passes c.args.at s c.in-Some.part.now (subst (λ xs. IsLast xs c.in-Some.part.now) c.as_slice.ensures.value c.in-Some.ensures) env c.deref.result.now (c.deref.ensures ∙ ap (λ t. t.value) c.ty.ensures) c.want_given.result (state_of env c.want_given.new.work)
    (subst (λ o. ComesOver (is_within g.T.Types.passes (OfKind AnyFuture) c.deref.result.now.sem c.args.at) env (Ok tt) o) c.in-Ok.ensures.atoms c.in-Ok.ensures.comes)
    (subst (λ o. Comes (wants_part g.T.Types.passes c.args.at) (state_of o c.args.work.now) c.want_given.result (state_of o c.want_given.new.work)) c.in-Ok.ensures.atoms c.want_given.ensures.comes)

pub returns-in-Err-clause-comes : goal.returns-in-Err-clause-comes
returns-in-Err-clause-comes g c =
    let env = g.T.Types.atoms c.args.types.now in
    no-future g.T.Types.passes c.args.at (state_of env c.args.work.now) c.in-Some.part.now (subst (λ xs. IsLast xs c.in-Some.part.now) c.as_slice.ensures.value c.in-Some.ensures) env c.deref.result.now (c.deref.ensures ∙ ap (λ t. t.value) c.ty.ensures) c.in-Err.stop
    (subst (λ o. ComesOver (is_within g.T.Types.passes (OfKind AnyFuture) c.deref.result.now.sem c.args.at) env (Err c.in-Err.stop) o) c.in-Err.ensures.atoms c.in-Err.ensures.comes)
