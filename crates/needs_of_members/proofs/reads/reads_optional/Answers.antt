use Rattle.std.proofs.Common.{refl}
use Rattle.expr_needs.specs.Needs.{ReadsOptional}
use Rattle.check_work.specs.Views.{going}
use Rattle.needs_of_members.proofs.Answered.{both-on}
use Rattle.needs_of_members.proofs.reads.reads_optional.Goals as goal

pub read_optional-answer-requires : goal.read_optional-answer-requires
read_optional-answer-requires g c = (c.requires (c.has_stopped.ensures.goes_on c.if-has_stopped.false)).1

pub returns-clause-holds : goal.returns-clause-holds
returns-clause-holds g c =
    let before = c.requires (c.has_stopped.ensures.goes_on c.if-has_stopped.false) in
    c.note.ensures.holds (g.T.Types.atoms c.args.checker.now.types) c.args.checker.now.names.now c.read_optional-answer.ensures.atoms (both-on _ _ c.read_optional-answer.result before.0 c.read_optional-answer.ensures.stands)

pub returns-clause-met : goal.returns-clause-met
returns-clause-met g c =
    c.note.ensures.runs _ c.args.checker.now.names.now (ReadsOptional c.args.field.now c.args.at) (going (g.T.Types.atoms c.args.checker.now.types) c.args.checker.now.work) refl
    (c.has_stopped.ensures.goes_on c.if-has_stopped.false) c.read_optional-answer.ensures.comes
