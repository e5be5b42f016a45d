use Rattle.std.proofs.Common.{map, refl}
use Rattle.descriptors.proofs.Yielding.{names-kept}
use Rattle.expr_needs.specs.Needs.{ChoosesMapping}
use Rattle.expr_needs.specs.ExprTable.{read_member, seen_of}
use Rattle.check_work.specs.Views.{going}
use Rattle.needs_of_structures.proofs.Answering.{on-both}
use Rattle.needs_of_choices.proofs.choosing.chooses_mapping.Goals as goal

pub choose_mapping-answer-requires : goal.choose_mapping-answer-requires
choose_mapping-answer-requires g c = (c.requires (c.has_stopped.ensures.goes_on c.if-has_stopped.false)).1

pub returns-clause-holds : goal.returns-clause-holds
returns-clause-holds g c =
    let before = c.requires (c.has_stopped.ensures.goes_on c.if-has_stopped.false) in
    c.note.ensures.holds _ c.args.checker.now.names.now refl
    (on-both _ _ c.choose_mapping-answer.result (names-kept _ _ c.args.checker.now.names.now c.choose_mapping-answer.ensures.kept before.0) c.choose_mapping-answer.ensures.stands)

pub returns-clause-met : goal.returns-clause-met
returns-clause-met g c =
    c.note.ensures.runs _ c.args.checker.now.names.now (ChoosesMapping c.args.expected (map seen_of (map read_member c.args.members.now)) c.args.at) (going (g.T.Types.atoms c.args.checker.now.types) c.args.checker.now.work) refl
    (c.has_stopped.ensures.goes_on c.if-has_stopped.false) c.choose_mapping-answer.ensures.comes
