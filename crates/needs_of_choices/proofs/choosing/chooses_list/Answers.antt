use Rattle.std.proofs.Common.{map, refl}
use Rattle.descriptors.proofs.Yielding.{names-kept}
use Rattle.expr_needs.specs.Needs.{ChoosesList}
use Rattle.expr_needs.specs.ExprTable.{read_expr}
use Rattle.check_work.specs.Views.{going}
use Rattle.needs_of_structures.proofs.Answering.{on-both}
use Rattle.needs_of_choices.proofs.choosing.chooses_list.Goals as goal

pub choose_list-answer-requires : goal.choose_list-answer-requires
choose_list-answer-requires g c = (c.requires (c.has_stopped.ensures.goes_on c.if-has_stopped.false)).1

pub returns-clause-holds : goal.returns-clause-holds
returns-clause-holds g c =
    let before = c.requires (c.has_stopped.ensures.goes_on c.if-has_stopped.false) in
    c.note.ensures.holds _ c.args.checker.now.names.now refl
    (on-both _ _ c.choose_list-answer.result (names-kept _ _ c.args.checker.now.names.now c.choose_list-answer.ensures.kept before.0) c.choose_list-answer.ensures.stands)

pub returns-clause-met : goal.returns-clause-met
returns-clause-met g c =
    c.note.ensures.runs _ c.args.checker.now.names.now (ChoosesList c.args.expected (map (λ i. i.literal) (map read_expr c.args.items.now)) c.args.at) (going (g.T.Types.atoms c.args.checker.now.types) c.args.checker.now.work) refl
    (c.has_stopped.ensures.goes_on c.if-has_stopped.false) c.choose_list-answer.ensures.comes
