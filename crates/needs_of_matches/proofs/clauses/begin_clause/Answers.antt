use Rattle.std.proofs.Common.{OnOk, subst, sym, true}
use Rattle.checks.specs.Checks.{Comes}
use Rattle.check_words.specs.Branches.{begins_clause}
use Rattle.check_words.specs.Stands.{Stands}
use Rattle.check_work.specs.Views.{state_of}
use Rattle.check_work.proofs.Noting.{made-comes, made-on}
use Rattle.needs_of_matches.proofs.clauses.begin_clause.Goals as goal

pub returns-in-true-clause-stands : goal.returns-in-true-clause-stands
returns-in-true-clause-stands g c =
    let env = g.T.Types.atoms c.args.types.now in
    subst (λ r. OnOk r (Stands (state_of env c.enter_left.new.work))) (sym c.lift.ensures) (made-on _ c.enter_left.result (c.enter_left.ensures.stands env c.requires))

pub returns-in-true-clause-comes : goal.returns-in-true-clause-comes
returns-in-true-clause-comes g c =
    let env = g.T.Types.atoms c.args.types.now in
    let s = state_of env c.args.work.now in
    let new = state_of env c.enter_left.new.work in
    subst (λ b. Comes (begins_clause g.T.Types.passes b) s c.lift.result new) (sym c.in-true.is)
    (subst (λ r. Comes (begins_clause g.T.Types.passes true) s r new) (sym c.lift.ensures) (made-comes _ s new c.enter_left.result (c.enter_left.ensures.comes env)))

pub returns-in-false-clause-comes : goal.returns-in-false-clause-comes
returns-in-false-clause-comes g c =
    subst (λ b. Comes (begins_clause g.T.Types.passes b) (state_of (g.T.Types.atoms c.args.types.now) c.args.work.now) c.enter_listed.result (state_of (g.T.Types.atoms c.enter_listed.new.types) c.enter_listed.new.work))
    (sym c.in-false.is) c.enter_listed.ensures.comes
