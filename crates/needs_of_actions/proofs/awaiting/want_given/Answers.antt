use Rattle.std.proofs.Common.{Err, Ok, OnOk, Some, length, refl, subst, sym}
use Rattle.checks.specs.Checks.{Comes}
use Rattle.check_kinds.specs.Over.{ComesOver}
use Rattle.check_words.specs.Stands.{PartBelow, Stands}
use Rattle.check_words.specs.State.{IsLast}
use Rattle.check_words.specs.Words.{wants}
use Rattle.check_words.proofs.Standing.{last-has}
use Rattle.check_work.specs.Views.{state_of}
use Rattle.check_work.proofs.Noting.{made-comes, made-on}
use Rattle.needs_of_actions.specs.Futures.{gives_given}
use Rattle.needs_of_actions.proofs.Futures.{part-refused, part-wanted}
use Rattle.needs_of_actions.proofs.awaiting.want_given.Goals as goal

pub given_by-requires : goal.given_by-requires
given_by-requires g c =
    last-has (PartBelow (length (g.T.Types.atoms c.args.types.now))) c.args.work.now.found.items c.in-Some.part.now (subst (λ xs. IsLast xs c.in-Some.part.now) c.as_slice.ensures.value c.in-Some.ensures) c.requires.found

pub returns-in-Ok-clause-stands : goal.returns-in-Ok-clause-stands
returns-in-Ok-clause-stands g c = let env = g.T.Types.atoms c.args.types.now in
    subst (λ r. OnOk r (Stands (state_of env c.want.new.work))) (sym c.lift.ensures) (made-on _ c.want.result (c.want.ensures.stands env c.in-Ok.ensures.below c.requires))

pub returns-in-Ok-clause-comes : goal.returns-in-Ok-clause-comes
returns-in-Ok-clause-comes g c =
    let env = g.T.Types.atoms c.args.types.now in
    let s = state_of env c.args.work.now in
    let new = state_of env c.want.new.work in
    part-wanted g.T.Types.passes c.args.at s c.in-Some.part.now (subst (λ xs. IsLast xs c.in-Some.part.now) c.as_slice.ensures.value c.in-Some.ensures) env c.in-Ok.t c.lift.result new
    (subst (λ o. ComesOver (gives_given g.T.Types.passes c.in-Some.part.now c.args.at) env (Ok c.in-Ok.t) o) c.in-Ok.ensures.atoms c.in-Ok.ensures.comes)
    (subst (λ r. Comes (wants (Some c.in-Ok.t)) s r new) (sym c.lift.ensures) (made-comes (wants (Some c.in-Ok.t)) s new c.want.result (c.want.ensures.comes env c.in-Ok.t refl)))

pub returns-in-Err-clause-comes : goal.returns-in-Err-clause-comes
returns-in-Err-clause-comes g c =
    let env = g.T.Types.atoms c.args.types.now in
    part-refused g.T.Types.passes c.args.at (state_of env c.args.work.now) c.in-Some.part.now (subst (λ xs. IsLast xs c.in-Some.part.now) c.as_slice.ensures.value c.in-Some.ensures) env c.in-Err.stop
    (subst (λ o. ComesOver (gives_given g.T.Types.passes c.in-Some.part.now c.args.at) env (Err c.in-Err.stop) o) c.in-Err.ensures.atoms c.in-Err.ensures.comes)
