use Rattle.std.proofs.Common.{refl}
use Rattle.expr_needs.specs.Needs.{MakesMatch}
use Rattle.check_work.specs.Views.{going}
use Rattle.needs_of_loops.proofs.Answered.{both-on}
use Rattle.needs_of_matches.proofs.ends.makes_match.Goals as goal

pub make_match-answer-requires : goal.make_match-answer-requires
make_match-answer-requires g c = (c.requires (c.has_stopped.ensures.goes_on c.if-has_stopped.false)).1

pub returns-clause-holds : goal.returns-clause-holds
returns-clause-holds g c =
    let before = c.requires (c.has_stopped.ensures.goes_on c.if-has_stopped.false) in
    c.note.ensures.holds (g.T.Types.atoms c.args.checker.now.types) c.args.checker.now.names.now c.make_match-answer.ensures.atoms
    (both-on _ _ c.make_match-answer.result before.0 c.make_match-answer.ensures.stands)

pub returns-clause-met : goal.returns-clause-met
returns-clause-met g c =
    c.note.ensures.runs _ c.args.checker.now.names.now (MakesMatch c.args.any c.args.at) (going (g.T.Types.atoms c.args.checker.now.types) c.args.checker.now.work) refl
    (c.has_stopped.ensures.goes_on c.if-has_stopped.false) c.make_match-answer.ensures.comes
