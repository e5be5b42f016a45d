use Rattle.std.proofs.Common.{refl}
use Rattle.expr_needs.specs.Needs.{ReadsStoredField}
use Rattle.check_work.specs.Views.{going}
use Rattle.needs_of_members.proofs.Answered.{over-more}
use Rattle.needs_of_members.proofs.operands.reads_stored_field.Goals as goal

pub read_field_before-answer-requires : goal.read_field_before-answer-requires
read_field_before-answer-requires g c = (c.requires (c.has_stopped.ensures.goes_on c.if-has_stopped.false)).1

pub returns-clause-holds : goal.returns-clause-holds
returns-clause-holds g c =
    let before = c.requires (c.has_stopped.ensures.goes_on c.if-has_stopped.false) in
    c.note.ensures.holds _ c.args.checker.now.names.now refl (over-more c.args.checker.now.names.now _ _ _ c.read_field_before-answer.result c.read_field_before-answer.ensures.kept before.0 c.read_field_before-answer.ensures.stands)

pub returns-clause-met : goal.returns-clause-met
returns-clause-met g c =
    c.note.ensures.runs _ c.args.checker.now.names.now (ReadsStoredField c.args.field.now c.args.at) (going (g.T.Types.atoms c.args.checker.now.types) c.args.checker.now.work) refl
    (c.has_stopped.ensures.goes_on c.if-has_stopped.false) c.read_field_before-answer.ensures.comes
