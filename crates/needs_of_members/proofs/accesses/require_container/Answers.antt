use Rattle.std.proofs.Common.{Err, Ok, subst}
use Rattle.checks.specs.Checks.{Comes}
use Rattle.checks.proofs.Steps.{stops}
use Rattle.check_words.specs.Words.{is_of}
use Rattle.check_words.proofs.Coming.{next}
use Rattle.check_words.proofs.Standing.{stands-beside}
use Rattle.check_work.specs.Views.{state_of}
use Rattle.needs_of_members.proofs.Answered.{accessed, lifted-comes, lifted-on, on-any, on-made}
use Rattle.needs_of_members.proofs.accesses.require_container.Goals as goal

pub returns-in-Ok-clause-stands : goal.returns-in-Ok-clause-stands
returns-in-Ok-clause-stands g c =
    lifted-on c.add_access.result _ c.lift.ensures _
    (on-any _ c.add_access.result (stands-beside (state_of (g.T.Types.atoms c.args.types.now) c.args.work.now) c.requires.stands _ _ _ _))

pub returns-in-Ok-clause-comes : goal.returns-in-Ok-clause-comes
returns-in-Ok-clause-comes g c =
    let s = state_of (g.T.Types.atoms c.args.types.now) c.args.work.now in
    let mid = state_of (g.T.Types.atoms c.require_last.new.types) c.args.work.now in
    next _ _ _ _ _ tt mid (subst (λ k. Comes (is_of g.T.Types.passes k c.args.at) s (Ok tt) mid) c.container_kind.ensures c.in-Ok.ensures.comes)
    (lifted-comes c.add_access.result _ c.lift.ensures _ mid _ (on-made _ _ c.add_access.result (λ e. accessed mid c.args.access _ e) c.add_access.ensures))

pub returns-in-Err-clause-comes : goal.returns-in-Err-clause-comes
returns-in-Err-clause-comes g c =
    let s = state_of (g.T.Types.atoms c.args.types.now) c.args.work.now in
    stops _ _ s _ c.in-Err.stop
    (subst (λ k. Comes (is_of g.T.Types.passes k c.args.at) s (Err c.in-Err.stop) (state_of (g.T.Types.atoms c.require_last.new.types) c.args.work.now)) c.container_kind.ensures c.in-Err.ensures.comes)
