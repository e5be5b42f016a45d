use Rattle.std.proofs.Common.{refl}
use Rattle.descriptors.proofs.Yielding.{names-kept}
use Rattle.expr_needs.specs.Needs.{IsConstant}
use Rattle.check_words.proofs.Growing.{stands-grows}
use Rattle.check_work.specs.Views.{going, state_of}
use Rattle.needs_of_functions.proofs.Storing.{on-any}
use Rattle.needs_of_functions.proofs.constants.is_constant.Goals as goal

pub check_constant-answer-requires : goal.check_constant-answer-requires
check_constant-answer-requires g c = (c.requires (c.has_stopped.ensures.goes_on c.if-has_stopped.false)).0

pub returns-clause-holds : goal.returns-clause-holds
returns-clause-holds g c =
    let before = c.requires (c.has_stopped.ensures.goes_on c.if-has_stopped.false) in
    let kept = c.check_constant-answer.ensures.kept in
    let old = g.T.Types.atoms c.args.checker.now.types in
    c.note.ensures.holds _ c.args.checker.now.names.now refl
    (on-any _ c.check_constant-answer.result (names-kept _ _ c.args.checker.now.names.now kept before.0, stands-grows (state_of old c.args.checker.now.work) _ kept before.1))

pub returns-clause-met : goal.returns-clause-met
returns-clause-met g c =
    c.note.ensures.runs _ c.args.checker.now.names.now (IsConstant c.args.d.now) (going (g.T.Types.atoms c.args.checker.now.types) c.args.checker.now.work) refl
    (c.has_stopped.ensures.goes_on c.if-has_stopped.false) c.check_constant-answer.ensures.comes
