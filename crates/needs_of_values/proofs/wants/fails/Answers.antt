use Rattle.std.proofs.Common.{refl}
use Rattle.expr_needs.specs.Needs.{Fails}
use Rattle.check_work.specs.Views.{going, state_of}
use Rattle.needs_of_values.proofs.Asked.{on-any}
use Rattle.needs_of_values.proofs.wants.fails.Goals as goal

pub returns-clause-holds : goal.returns-clause-holds
returns-clause-holds g c =
    let env = g.T.Types.atoms c.args.checker.now.types in
    c.note.ensures.holds env c.args.checker.now.names.now refl (on-any _ c.refusal-answer.result (c.requires (c.has_stopped.ensures.goes_on c.if-has_stopped.false)))

pub returns-clause-met : goal.returns-clause-met
returns-clause-met g c =
    let env = g.T.Types.atoms c.args.checker.now.types in
    c.note.ensures.runs env c.args.checker.now.names.now (Fails c.args.code c.args.at) (going env c.args.checker.now.work) refl
    (c.has_stopped.ensures.goes_on c.if-has_stopped.false) (c.refusal-answer.ensures (state_of env c.args.checker.now.work))
