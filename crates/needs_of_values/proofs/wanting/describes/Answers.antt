use Rattle.std.proofs.Common.{refl}
use Rattle.expr_needs.specs.Needs.{Describes}
use Rattle.check_work.specs.Views.{going}
use Rattle.needs_of_values.proofs.Asked.{both-kept}
use Rattle.needs_of_values.proofs.wanting.describes.Goals as goal

pub want_described-answer-requires-clause-names : goal.want_described-answer-requires-clause-names
want_described-answer-requires-clause-names g c = (c.requires (c.has_stopped.ensures.goes_on c.if-has_stopped.false)).0

pub want_described-answer-requires-clause-stands : goal.want_described-answer-requires-clause-stands
want_described-answer-requires-clause-stands g c = (c.requires (c.has_stopped.ensures.goes_on c.if-has_stopped.false)).1

pub returns-clause-holds : goal.returns-clause-holds
returns-clause-holds g c =
    c.note.ensures.holds _ c.args.checker.now.names.now refl (both-kept _ _ c.want_described-answer.result c.want_described-answer.ensures.names c.want_described-answer.ensures.stands)

pub returns-clause-met : goal.returns-clause-met
returns-clause-met g c =
    c.note.ensures.runs _ c.args.checker.now.names.now (Describes c.args.tree.now) (going (g.T.Types.atoms c.args.checker.now.types) c.args.checker.now.work) refl (c.has_stopped.ensures.goes_on c.if-has_stopped.false)
    c.want_described-answer.ensures.comes
