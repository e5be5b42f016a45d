use Rattle.std.proofs.Common.{refl}
use Rattle.descriptors.proofs.Yielding.{names-kept}
use Rattle.expr_needs.specs.Needs.{BeginsFunction}
use Rattle.check_work.specs.Views.{going}
use Rattle.check_work.proofs.Noting.{on-both}
use Rattle.needs_of_functions.proofs.functions.begins_function.Goals as goal

pub begin_function-made-requires-clause-names : goal.begin_function-made-requires-clause-names
begin_function-made-requires-clause-names g c = (c.requires (c.has_stopped.ensures.goes_on c.if-has_stopped.false)).0

pub begin_function-made-requires-clause-stands : goal.begin_function-made-requires-clause-stands
begin_function-made-requires-clause-stands g c = (c.requires (c.has_stopped.ensures.goes_on c.if-has_stopped.false)).1

pub returns-clause-holds : goal.returns-clause-holds
returns-clause-holds g c =
    let before = c.requires (c.has_stopped.ensures.goes_on c.if-has_stopped.false) in
    c.note_made.ensures.holds _ c.args.checker.now.names.now refl
    (on-both _ _ c.begin_function-made.result (names-kept _ _ c.args.checker.now.names.now c.begin_function-made.ensures.kept before.0) c.begin_function-made.ensures.stands)

pub returns-clause-met : goal.returns-clause-met
returns-clause-met g c =
    c.note_made.ensures.runs _ c.args.checker.now.names.now (BeginsFunction c.args.d.now) (going (g.T.Types.atoms c.args.checker.now.types) c.args.checker.now.work) refl
    (c.has_stopped.ensures.goes_on c.if-has_stopped.false) c.begin_function-made.ensures.comes
