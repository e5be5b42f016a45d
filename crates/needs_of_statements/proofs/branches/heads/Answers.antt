use Rattle.std.proofs.Common.{refl}
use Rattle.tree_places.specs.Assigned.{assigned_in_block}
use Rattle.typed_tree.specs.Listed.{members}
use Rattle.expr_needs.specs.Needs.{Heads}
use Rattle.check_work.specs.Views.{going}
use Rattle.check_work.proofs.Noting.{on-both}
use Rattle.needs_of_statements.proofs.branches.heads.Goals as goal

pub returns-clause-holds : goal.returns-clause-holds
returns-clause-holds g c =
    let env = g.T.Types.atoms c.args.checker.now.types in
    let before = c.requires (c.has_stopped.ensures.goes_on c.if-has_stopped.false) in
    c.note_made.ensures.holds env c.args.checker.now.names.now refl (on-both _ _ c.head-made.result before.0 (c.head-made.ensures.stands env before.1))

pub returns-clause-met : goal.returns-clause-met
returns-clause-met g c =
    let env = g.T.Types.atoms c.args.checker.now.types in
    c.note_made.ensures.runs env c.args.checker.now.names.now (Heads (members (assigned_in_block c.args.body.now))) (going env c.args.checker.now.work) refl (c.has_stopped.ensures.goes_on c.if-has_stopped.false)
    (c.head-made.ensures.comes env)
