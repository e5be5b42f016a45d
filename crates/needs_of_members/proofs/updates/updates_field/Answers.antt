use Rattle.std.proofs.Common.{refl}
use Rattle.expr_needs.specs.Needs.{UpdatesField}
use Rattle.check_work.specs.Views.{going}
use Rattle.needs_of_members.proofs.Answered.{both-on}
use Rattle.needs_of_members.proofs.updates.updates_field.Goals as goal

pub require_field_update-answer-requires : goal.require_field_update-answer-requires
require_field_update-answer-requires g c = (c.requires (c.has_stopped.ensures.goes_on c.if-has_stopped.false)).1

pub returns-clause-holds : goal.returns-clause-holds
returns-clause-holds g c =
    let before = c.requires (c.has_stopped.ensures.goes_on c.if-has_stopped.false) in
    c.note.ensures.holds (g.T.Types.atoms c.args.checker.now.types) c.args.checker.now.names.now c.require_field_update-answer.ensures.atoms (both-on _ _ c.require_field_update-answer.result before.0 c.require_field_update-answer.ensures.stands)

pub returns-clause-met : goal.returns-clause-met
returns-clause-met g c =
    c.note.ensures.runs _ c.args.checker.now.names.now (UpdatesField c.args.field.now c.args.op c.args.at) (going (g.T.Types.atoms c.args.checker.now.types) c.args.checker.now.work) refl
    (c.has_stopped.ensures.goes_on c.if-has_stopped.false) c.require_field_update-answer.ensures.comes
