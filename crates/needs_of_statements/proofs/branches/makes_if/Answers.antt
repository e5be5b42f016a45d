use Rattle.expr_needs.specs.Needs.{MakesIf}
use Rattle.check_work.specs.Views.{going}
use Rattle.check_work.proofs.Noting.{on-both}
use Rattle.needs_of_statements.proofs.branches.makes_if.Goals as goal

pub end_branch-made-requires : goal.end_branch-made-requires
end_branch-made-requires g c = (c.requires (c.has_stopped.ensures.goes_on c.if-has_stopped.false)).1

pub returns-clause-holds : goal.returns-clause-holds
returns-clause-holds g c =
    let before = c.requires (c.has_stopped.ensures.goes_on c.if-has_stopped.false) in
    c.note_made.ensures.holds (g.T.Types.atoms c.args.checker.now.types) c.args.checker.now.names.now c.end_branch-made.ensures.atoms
    (on-both _ _ c.end_branch-made.result before.0 c.end_branch-made.ensures.stands)

pub returns-clause-met : goal.returns-clause-met
returns-clause-met g c =
    let env = g.T.Types.atoms c.args.checker.now.types in
    c.note_made.ensures.runs env c.args.checker.now.names.now (MakesIf c.args.at) (going env c.args.checker.now.work) c.end_branch-made.ensures.atoms
    (c.has_stopped.ensures.goes_on c.if-has_stopped.false) c.end_branch-made.ensures.comes
