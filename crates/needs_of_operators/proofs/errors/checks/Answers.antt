use Rattle.expr_needs.specs.Needs.{Checks}
use Rattle.check_work.specs.Views.{going}
use Rattle.needs_of_operators.proofs.Asked.{both-on}
use Rattle.needs_of_operators.proofs.errors.checks.Goals as goal

pub check_result-answer-requires : goal.check_result-answer-requires
check_result-answer-requires g c = (c.requires (c.has_stopped.ensures.goes_on c.if-has_stopped.false)).1

pub returns-clause-holds : goal.returns-clause-holds
returns-clause-holds g c =
    let env = g.T.Types.atoms c.args.checker.now.types in
    c.note.ensures.holds env c.args.checker.now.names.now c.check_result-answer.ensures.atoms (both-on _ _ c.check_result-answer.result (c.requires (c.has_stopped.ensures.goes_on c.if-has_stopped.false)).0 c.check_result-answer.ensures.stands)

pub returns-clause-met : goal.returns-clause-met
returns-clause-met g c =
    let env = g.T.Types.atoms c.args.checker.now.types in
    c.note.ensures.runs env c.args.checker.now.names.now (Checks c.args.at) (going env c.args.checker.now.work) c.check_result-answer.ensures.atoms (c.has_stopped.ensures.goes_on c.if-has_stopped.false)
    c.check_result-answer.ensures.comes
