use Rattle.std.proofs.Common.{Ok, OnOk, refl, subst}
use Rattle.checks.specs.Checks.{Comes}
use Rattle.expr_needs.specs.ExprTable.{read_expr}
use Rattle.expr_needs.specs.Needs.{BeginsMatch}
use Rattle.check_words.specs.Branches.{begins_match}
use Rattle.check_work.specs.Views.{going, state_of}
use Rattle.check_work.proofs.Noting.{on-both}
use Rattle.needs_of_matches.proofs.matches.begins_match.Goals as goal

pub returns-clause-holds : goal.returns-clause-holds
returns-clause-holds g c =
    let env = g.T.Types.atoms c.args.checker.now.types in
    let before = c.requires (c.has_stopped.ensures.goes_on c.if-has_stopped.false) in
    c.note_made.ensures.holds env c.args.checker.now.names.now refl (on-both _ _ c.begin_match-made.result before.0 (c.begin_match-made.ensures.stands env before.1))

pub returns-clause-met : goal.returns-clause-met
returns-clause-met g c =
    let env = g.T.Types.atoms c.args.checker.now.types in
    let value = read_expr c.args.value.now in
    let s = state_of env c.args.checker.now.work in
    c.note_made.ensures.runs env c.args.checker.now.names.now (BeginsMatch value.name value.at) (going env c.args.checker.now.work) refl (c.has_stopped.ensures.goes_on c.if-has_stopped.false)
    (subst (λ at. OnOk c.begin_match-made.result (Comes (begins_match value.name at) s (Ok tt) (state_of env c.begin_match-made.new.work))) c.place-at.ensures
    (subst (λ name. OnOk c.begin_match-made.result (Comes (begins_match name c.place-at.result) s (Ok tt) (state_of env c.begin_match-made.new.work))) c.name_of-name.ensures (c.begin_match-made.ensures.comes env)))
