use Rattle.std.proofs.Common.{◌∙◌, ap, arith, subst, sym}
use Rattle.typed_tree.specs.StmtLayers.{of_typed_clause, of_typed_stmt}
use Rattle.worker_pairing.specs.Marks.{expr_marks, marking, stmts_marks}
use Rattle.worker_members.specs.inner.Hearing.{Grows}
use Rattle.worker_members.proofs.Growing.{grows-choice, grows-more, grows-round}
use Rattle.worker_members.proofs.Strict.{foreach-marks, if-marks, while-marks}
use Rattle.worker_members.proofs.stmts.+stmt.Goals as goal

pub stmts-loop-s-preserved : goal.stmts-loop-s-preserved
stmts-loop-s-preserved t c =
    grows-more c.args.spot (of_typed_stmt marking) c.args.ss.now c.loop-s.s-index c.s-item.result _ _ _ (grind (arith, c.loop-s-test.true)) c.s-item.is c.loop-s.invariant c.stmt.ensures

pub clauses-loop-c-preserved : goal.clauses-loop-c-preserved
clauses-loop-c-preserved t c =
    grows-more c.args.spot (of_typed_clause marking) c.args.cs.now c.loop-c.c-index c.c-item.result _ _ _ (grind (arith, c.loop-c-test.true)) c.c-item.is c.loop-c.invariant c.clause.ensures

pub stmt-returns-in-If : goal.stmt-returns-in-If
stmt-returns-in-If t c =
    subst (λ l. Grows c.args.spot l c.args.heard.now c.stmts-in-If.new.heard)
    (sym (ap (of_typed_stmt marking) c.in-If.is ∙ if-marks c.in-If.condition c.in-If.first c.in-If.second c.in-If.at))
    (grows-choice c.args.spot c.aside.result c.aside-in-If.result _ _ _ c.args.heard.now c.expr-in-If.new.heard c.stmts.new.heard c.stmts-in-If.new.heard c.aside.ensures c.aside-in-If.ensures
    (subst (λ e. Grows c.args.spot (expr_marks e) c.args.heard.now c.expr-in-If.new.heard) c.deref-in-If.ensures c.expr-in-If.ensures)
    (subst (λ ss. Grows c.aside.result (stmts_marks ss) c.expr-in-If.new.heard c.stmts.new.heard) c.deref-in-If-2.ensures.value c.stmts.ensures)
    (subst (λ ss. Grows c.aside-in-If.result (stmts_marks ss) c.stmts.new.heard c.stmts-in-If.new.heard) c.deref-in-If-3.ensures.value c.stmts-in-If.ensures))

pub stmt-returns-in-While : goal.stmt-returns-in-While
stmt-returns-in-While t c =
    subst (λ l. Grows c.args.spot l c.args.heard.now c.stmts-in-While.new.heard)
    (sym (ap (of_typed_stmt marking) c.in-While.is ∙ while-marks c.in-While.condition c.in-While.body c.in-While.at))
    (grows-round c.args.spot c.aside-in-While.result c.aside-in-While-2.result _ _ c.args.heard.now c.expr-in-While.new.heard c.stmts-in-While.new.heard c.aside-in-While.ensures c.aside-in-While-2.ensures
    (subst (λ e. Grows c.aside-in-While.result (expr_marks e) c.args.heard.now c.expr-in-While.new.heard) c.deref-in-While.ensures c.expr-in-While.ensures)
    (subst (λ ss. Grows c.aside-in-While-2.result (stmts_marks ss) c.expr-in-While.new.heard c.stmts-in-While.new.heard) c.deref-in-While-2.ensures.value c.stmts-in-While.ensures))

pub stmt-returns-in-Foreach : goal.stmt-returns-in-Foreach
stmt-returns-in-Foreach t c =
    subst (λ l. Grows c.args.spot l c.args.heard.now c.stmts-in-Foreach.new.heard)
    (sym (ap (of_typed_stmt marking) c.in-Foreach.is ∙ foreach-marks c.in-Foreach.slot c.in-Foreach.from c.in-Foreach.body c.in-Foreach.at))
    (grows-round c.args.spot c.aside-in-Foreach.result c.aside-in-Foreach-2.result _ _ c.args.heard.now c.source.new.heard c.stmts-in-Foreach.new.heard c.aside-in-Foreach.ensures c.aside-in-Foreach-2.ensures
    c.source.ensures
    (subst (λ ss. Grows c.aside-in-Foreach-2.result (stmts_marks ss) c.source.new.heard c.stmts-in-Foreach.new.heard) c.deref-in-Foreach.ensures.value c.stmts-in-Foreach.ensures))
