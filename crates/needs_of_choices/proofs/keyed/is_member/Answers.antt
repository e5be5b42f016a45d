use Rattle.std.proofs.Common.{refl}
use Rattle.descriptors.proofs.Yielding.{names-kept}
use Rattle.expr_needs.specs.Needs.{IsMember}
use Rattle.check_work.specs.Views.{going}
use Rattle.needs_of_structures.proofs.Answering.{on-both}
use Rattle.needs_of_choices.proofs.keyed.is_member.Goals as goal

pub take_keyed-answer-requires-clause-own : goal.take_keyed-answer-requires-clause-own
take_keyed-answer-requires-clause-own g c = (c.requires (c.has_stopped.ensures.goes_on c.if-has_stopped.false)).0.own

pub take_keyed-answer-requires-clause-stands : goal.take_keyed-answer-requires-clause-stands
take_keyed-answer-requires-clause-stands g c = (c.requires (c.has_stopped.ensures.goes_on c.if-has_stopped.false)).1

pub returns-clause-holds : goal.returns-clause-holds
returns-clause-holds g c =
    let before = c.requires (c.has_stopped.ensures.goes_on c.if-has_stopped.false) in
    c.note.ensures.holds _ c.args.checker.now.names.now refl
    (on-both _ _ c.take_keyed-answer.result (names-kept _ _ c.args.checker.now.names.now c.take_keyed-answer.ensures.kept before.0) c.take_keyed-answer.ensures.stands)

pub returns-clause-met : goal.returns-clause-met
returns-clause-met g c =
    c.note.ensures.runs _ c.args.checker.now.names.now (IsMember c.args.at) (going (g.T.Types.atoms c.args.checker.now.types) c.args.checker.now.work) refl
    (c.has_stopped.ensures.goes_on c.if-has_stopped.false) c.take_keyed-answer.ensures.comes
