use Rattle.std.proofs.Common.{refl}
use Rattle.expr_needs.specs.Needs.{HasPattern}
use Rattle.check_work.specs.Views.{going}
use Rattle.needs_of_loops.proofs.Answered.{both-on}
use Rattle.needs_of_matches.proofs.patterns.has_pattern.Goals as goal

pub returns-clause-holds : goal.returns-clause-holds
returns-clause-holds g c =
    let env = g.T.Types.atoms c.args.checker.now.types in
    let before = c.requires (c.has_stopped.ensures.goes_on c.if-has_stopped.false) in
    c.note.ensures.holds env c.args.checker.now.names.now refl (both-on _ _ c.add_pattern-answer.result before.0 (c.add_pattern-answer.ensures.stands env before.1))

pub returns-clause-met : goal.returns-clause-met
returns-clause-met g c =
    let env = g.T.Types.atoms c.args.checker.now.types in
    c.note.ensures.runs env c.args.checker.now.names.now (HasPattern c.args.pattern.now) (going env c.args.checker.now.work) refl
    (c.has_stopped.ensures.goes_on c.if-has_stopped.false) (c.add_pattern-answer.ensures.comes env)
