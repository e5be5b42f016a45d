use Rattle.std.proofs.Common.{refl}
use Rattle.expr_needs.specs.Needs.{UpdatesName}
use Rattle.check_work.specs.Views.{going}
use Rattle.needs_of_statements.proofs.Answering.{on-answer}
use Rattle.needs_of_assignments.proofs.assignments.updates_name.Goals as goal

pub update_name-answer-requires : goal.update_name-answer-requires
update_name-answer-requires g c = (c.requires (c.has_stopped.ensures.goes_on c.if-has_stopped.false)).1

pub returns-clause-holds : goal.returns-clause-holds
returns-clause-holds g c =
    let before = c.requires (c.has_stopped.ensures.goes_on c.if-has_stopped.false) in
    c.note.ensures.holds (g.T.Types.atoms c.args.checker.now.types) c.args.checker.now.names.now c.update_name-answer.ensures.atoms
    (on-answer _ _ c.update_name-answer.result before.0 c.update_name-answer.ensures.stands)

pub returns-clause-met : goal.returns-clause-met
returns-clause-met g c =
    c.note.ensures.runs _ c.args.checker.now.names.now (UpdatesName c.args.name.now c.args.op c.args.at) (going (g.T.Types.atoms c.args.checker.now.types) c.args.checker.now.work) refl
    (c.has_stopped.ensures.goes_on c.if-has_stopped.false) c.update_name-answer.ensures.comes
