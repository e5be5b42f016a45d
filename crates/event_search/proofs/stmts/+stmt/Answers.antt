use Rattle.std.proofs.Common.{◌∙◌, ap, arith, subst, sym}
use Rattle.typed_tree.specs.StmtLayers.{of_typed_clause, of_typed_stmt}
use Rattle.worker_pairing.specs.Marks.{expr_marks, marking, stmts_marks}
use Rattle.event_search.specs.inner.Walking.{Goes}
use Rattle.event_search.proofs.Walks.{goes-choice, goes-more, goes-round}
use Rattle.event_search.proofs.Layers.{foreach-marks, if-marks, while-marks}
use Rattle.event_search.proofs.stmts.+stmt.Goals as goal

pub stmts-loop-s-preserved : goal.stmts-loop-s-preserved
stmts-loop-s-preserved t c =
    goes-more c.args.initial (of_typed_stmt marking) c.args.ss.now c.loop-s.s-index c.s-item.result _ _ _ (grind (arith, c.loop-s-test.true)) c.s-item.is c.loop-s.invariant c.stmt.ensures

pub clauses-loop-c-preserved : goal.clauses-loop-c-preserved
clauses-loop-c-preserved t c =
    goes-more c.args.initial (of_typed_clause marking) c.args.cs.now c.loop-c.c-index c.c-item.result _ _ _ (grind (arith, c.loop-c-test.true)) c.c-item.is c.loop-c.invariant c.clause.ensures

pub stmt-returns-in-If : goal.stmt-returns-in-If
stmt-returns-in-If t c =
    subst (λ l. Goes c.args.initial l c.args.search.now c.stmts-in-If.new.search)
    (sym (ap (of_typed_stmt marking) c.in-If.is ∙ if-marks c.in-If.condition c.in-If.first c.in-If.second c.in-If.at))
    (goes-choice c.args.initial _ _ _ c.args.search.now c.expr-in-If.new.search c.stmts.new.search c.stmts-in-If.new.search
    (subst (λ e. Goes c.args.initial (expr_marks e) c.args.search.now c.expr-in-If.new.search) c.deref-in-If.ensures c.expr-in-If.ensures)
    (subst (λ ss. Goes c.args.initial (stmts_marks ss) c.expr-in-If.new.search c.stmts.new.search) c.deref-in-If-2.ensures.value c.stmts.ensures)
    (subst (λ ss. Goes c.args.initial (stmts_marks ss) c.stmts.new.search c.stmts-in-If.new.search) c.deref-in-If-3.ensures.value c.stmts-in-If.ensures))

pub stmt-returns-in-While : goal.stmt-returns-in-While
stmt-returns-in-While t c =
    subst (λ l. Goes c.args.initial l c.args.search.now c.stmts-in-While.new.search)
    (sym (ap (of_typed_stmt marking) c.in-While.is ∙ while-marks c.in-While.condition c.in-While.body c.in-While.at))
    (goes-round c.args.initial _ _ c.args.search.now c.expr-in-While.new.search c.stmts-in-While.new.search
    (subst (λ e. Goes c.args.initial (expr_marks e) c.args.search.now c.expr-in-While.new.search) c.deref-in-While.ensures c.expr-in-While.ensures)
    (subst (λ ss. Goes c.args.initial (stmts_marks ss) c.expr-in-While.new.search c.stmts-in-While.new.search) c.deref-in-While-2.ensures.value c.stmts-in-While.ensures))

pub stmt-returns-in-Foreach : goal.stmt-returns-in-Foreach
stmt-returns-in-Foreach t c =
    subst (λ l. Goes c.args.initial l c.args.search.now c.stmts-in-Foreach.new.search)
    (sym (ap (of_typed_stmt marking) c.in-Foreach.is ∙ foreach-marks c.in-Foreach.slot c.in-Foreach.from c.in-Foreach.body c.in-Foreach.at))
    (goes-round c.args.initial _ _ c.args.search.now c.source.new.search c.stmts-in-Foreach.new.search
    c.source.ensures
    (subst (λ ss. Goes c.args.initial (stmts_marks ss) c.source.new.search c.stmts-in-Foreach.new.search) c.deref-in-Foreach.ensures.value c.stmts-in-Foreach.ensures))
