use Rattle.std.proofs.Common.{Ok, OnOk, refl, subst, sym}
use Rattle.checks.specs.Checks.{Comes}
use Rattle.expr_needs.specs.ExprTable.{read_expr}
use Rattle.expr_needs.specs.Needs.{BeginsValue}
use Rattle.typed_tree.specs.Listed.{members}
use Rattle.check_words.specs.Calls.{begins_value}
use Rattle.check_work.specs.Views.{going, state_of}
use Rattle.check_work.proofs.Noting.{on-both}
use Rattle.needs_of_functions.proofs.UsedWords.{used-same}
use Rattle.needs_of_functions.proofs.captured.begins_value.Goals as goal

pub returns-clause-holds : goal.returns-clause-holds
returns-clause-holds g c =
    let env = g.T.Types.atoms c.args.checker.now.types in
    let before = c.requires (c.has_stopped.ensures.goes_on c.if-has_stopped.false) in
    c.note_made.ensures.holds env c.args.checker.now.names.now refl (on-both _ _ c.begin_value-made.result before.0 (c.begin_value-made.ensures.stands env before.1))

pub returns-clause-met : goal.returns-clause-met
returns-clause-met g c =
    let env = g.T.Types.atoms c.args.checker.now.types in
    c.note_made.ensures.runs env c.args.checker.now.names.now (BeginsValue (members (read_expr c.args.value.now).used)) (going env c.args.checker.now.work) refl (c.has_stopped.ensures.goes_on c.if-has_stopped.false)
    (subst (λ p. OnOk c.begin_value-made.result (Comes (begins_value (members p)) (state_of env c.args.checker.now.work) (Ok tt) (state_of env c.begin_value-made.new.work)))
    (sym (used-same c.args.value.now)) (c.begin_value-made.ensures.comes env))
