use Rattle.std.proofs.Common.{refl}
use Rattle.expr_needs.specs.Needs.{ReadsElement}
use Rattle.check_work.specs.Views.{going}
use Rattle.needs_of_members.proofs.Answered.{both-on}
use Rattle.needs_of_members.proofs.reads.reads_element.Goals as goal

pub read_element-answer-requires-clause-own : goal.read_element-answer-requires-clause-own
read_element-answer-requires-clause-own g c = (c.requires (c.has_stopped.ensures.goes_on c.if-has_stopped.false)).0.own

pub read_element-answer-requires-clause-stands : goal.read_element-answer-requires-clause-stands
read_element-answer-requires-clause-stands g c = (c.requires (c.has_stopped.ensures.goes_on c.if-has_stopped.false)).1

pub returns-clause-holds : goal.returns-clause-holds
returns-clause-holds g c =
    let before = c.requires (c.has_stopped.ensures.goes_on c.if-has_stopped.false) in
    c.note.ensures.holds (g.T.Types.atoms c.args.checker.now.types) c.args.checker.now.names.now c.read_element-answer.ensures.atoms (both-on _ _ c.read_element-answer.result before.0 c.read_element-answer.ensures.stands)

pub returns-clause-met : goal.returns-clause-met
returns-clause-met g c =
    c.note.ensures.runs _ c.args.checker.now.names.now (ReadsElement c.args.at) (going (g.T.Types.atoms c.args.checker.now.types) c.args.checker.now.work) refl
    (c.has_stopped.ensures.goes_on c.if-has_stopped.false) c.read_element-answer.ensures.comes
