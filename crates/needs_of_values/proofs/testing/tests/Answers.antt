use Rattle.expr_needs.specs.ExprTable.{read_expr}
use Rattle.expr_needs.specs.Needs.{Tests}
use Rattle.check_work.specs.Views.{going}
use Rattle.needs_of_values.proofs.Asked.{both-on}
use Rattle.needs_of_values.proofs.Tested.{tested-as}
use Rattle.needs_of_values.proofs.testing.tests.Goals as goal

pub test-answer-requires-clause-own : goal.test-answer-requires-clause-own
test-answer-requires-clause-own g c = (c.requires (c.has_stopped.ensures.goes_on c.if-has_stopped.false)).0.own

pub test-answer-requires-clause-stands : goal.test-answer-requires-clause-stands
test-answer-requires-clause-stands g c = (c.requires (c.has_stopped.ensures.goes_on c.if-has_stopped.false)).1

pub returns-clause-holds : goal.returns-clause-holds
returns-clause-holds g c =
    let env = g.T.Types.atoms c.args.checker.now.types in
    let before = c.requires (c.has_stopped.ensures.goes_on c.if-has_stopped.false) in
    c.note.ensures.holds env c.args.checker.now.names.now c.test-answer.ensures.atoms (both-on _ _ c.test-answer.result before.0 c.test-answer.ensures.stands)

pub returns-clause-met : goal.returns-clause-met
returns-clause-met g c =
    let env = g.T.Types.atoms c.args.checker.now.types in
    c.note.ensures.runs env c.args.checker.now.names.now (Tests (read_expr c.args.operand.now).name c.args.at) (going env c.args.checker.now.work) c.test-answer.ensures.atoms (c.has_stopped.ensures.goes_on c.if-has_stopped.false)
    (tested-as g.T.Types.passes c.args.at _ _ _ _ _ c.name_of-name.ensures c.test-answer.ensures.comes)
