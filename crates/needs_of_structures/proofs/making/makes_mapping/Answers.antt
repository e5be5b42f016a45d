use Rattle.std.proofs.Common.{refl}
use Rattle.descriptors.proofs.Yielding.{names-kept}
use Rattle.expr_needs.specs.Needs.{MakesMapping}
use Rattle.check_work.specs.Views.{going}
use Rattle.needs_of_structures.proofs.Answering.{on-both}
use Rattle.needs_of_structures.proofs.making.makes_mapping.Goals as goal

pub make_mapping-answer-requires : goal.make_mapping-answer-requires
make_mapping-answer-requires g c = (c.requires (c.has_stopped.ensures.goes_on c.if-has_stopped.false)).1

pub returns-clause-holds : goal.returns-clause-holds
returns-clause-holds g c =
    let before = c.requires (c.has_stopped.ensures.goes_on c.if-has_stopped.false) in
    c.note.ensures.holds _ c.args.checker.now.names.now refl
    (on-both _ _ c.make_mapping-answer.result (names-kept _ _ c.args.checker.now.names.now c.make_mapping-answer.ensures.kept before.0) c.make_mapping-answer.ensures.stands)

pub returns-clause-met : goal.returns-clause-met
returns-clause-met g c =
    c.note.ensures.runs _ c.args.checker.now.names.now (MakesMapping c.args.count c.args.at) (going (g.T.Types.atoms c.args.checker.now.types) c.args.checker.now.work) refl
    (c.has_stopped.ensures.goes_on c.if-has_stopped.false) c.make_mapping-answer.ensures.comes
