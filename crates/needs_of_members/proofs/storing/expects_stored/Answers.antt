use Rattle.std.proofs.Common.{refl}
use Rattle.expr_needs.specs.Needs.{ExpectsStored}
use Rattle.check_work.specs.Views.{going}
use Rattle.needs_of_members.proofs.Answered.{both-on}
use Rattle.needs_of_members.proofs.storing.expects_stored.Goals as goal

pub expect_stored-answer-requires : goal.expect_stored-answer-requires
expect_stored-answer-requires g c = (c.requires (c.has_stopped.ensures.goes_on c.if-has_stopped.false)).1

pub returns-clause-holds : goal.returns-clause-holds
returns-clause-holds g c =
    let before = c.requires (c.has_stopped.ensures.goes_on c.if-has_stopped.false) in
    c.note.ensures.holds (g.T.Types.atoms c.args.checker.now.types) c.args.checker.now.names.now c.expect_stored-answer.ensures.atoms (both-on _ _ c.expect_stored-answer.result before.0 c.expect_stored-answer.ensures.stands)

pub returns-clause-met : goal.returns-clause-met
returns-clause-met g c =
    c.note.ensures.runs _ c.args.checker.now.names.now (ExpectsStored c.args.at) (going (g.T.Types.atoms c.args.checker.now.types) c.args.checker.now.work) refl
    (c.has_stopped.ensures.goes_on c.if-has_stopped.false) c.expect_stored-answer.ensures.comes
