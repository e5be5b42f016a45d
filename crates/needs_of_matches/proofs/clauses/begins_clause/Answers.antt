use Rattle.std.proofs.Common.{refl}
use Rattle.expr_needs.specs.Needs.{BeginsClause}
use Rattle.check_work.specs.Views.{going}
use Rattle.needs_of_loops.proofs.Answered.{both-on}
use Rattle.needs_of_matches.proofs.clauses.begins_clause.Goals as goal

pub begin_clause-answer-requires : goal.begin_clause-answer-requires
begin_clause-answer-requires g c = (c.requires (c.has_stopped.ensures.goes_on c.if-has_stopped.false)).1

pub returns-clause-holds : goal.returns-clause-holds
returns-clause-holds g c =
    let before = c.requires (c.has_stopped.ensures.goes_on c.if-has_stopped.false) in
    c.note.ensures.holds (g.T.Types.atoms c.args.checker.now.types) c.args.checker.now.names.now c.begin_clause-answer.ensures.atoms
    (both-on _ _ c.begin_clause-answer.result before.0 c.begin_clause-answer.ensures.stands)

pub returns-clause-met : goal.returns-clause-met
returns-clause-met g c =
    c.note.ensures.runs _ c.args.checker.now.names.now (BeginsClause c.args.any) (going (g.T.Types.atoms c.args.checker.now.types) c.args.checker.now.work) refl
    (c.has_stopped.ensures.goes_on c.if-has_stopped.false) c.begin_clause-answer.ensures.comes
