use Rattle.std.proofs.Common.{◌∙◌, ap, arith, map, subst, sym}
use Rattle.typed_tree.specs.SharedTypes.{sem_of}
use Rattle.worker_pairing.specs.Marks.{expr_marks, exprs_marks, form_marks, last_type, typed_marks}
use Rattle.worker_members.specs.inner.Hearing.{Grows}
use Rattle.worker_members.proofs.Growing.{grows-both, grows-choice, grows-more}
use Rattle.worker_members.proofs.Strict.{conditional-marks, strict-marks}
use Rattle.worker_members.proofs.exprs.+expr.Goals as goal

pub exprs-loop-e-preserved : goal.exprs-loop-e-preserved
exprs-loop-e-preserved t c =
    grows-more c.args.spot expr_marks c.args.es.now c.loop-e.e-index c.e-item.result _ _ _ (grind (arith, c.loop-e-test.true)) c.e-item.is c.loop-e.invariant c.expr.ensures

pub expr-returns-in-Strict : goal.expr-returns-in-Strict
expr-returns-in-Strict t c =
    subst (λ l. Grows c.args.spot l c.args.heard.now c.form.new.heard) (sym (strict-marks c.args.e.now c.in-Strict.done c.in-Strict.operands c.in-Strict.ty c.in-Strict.at c.in-Strict.is))
    (grows-both c.args.spot _ _ c.args.heard.now c.exprs.new.heard c.form.new.heard
    (subst (λ es. Grows c.args.spot (exprs_marks es) c.args.heard.now c.exprs.new.heard) c.deref.ensures.value c.exprs.ensures)
    (subst (λ s. Grows c.args.spot (form_marks c.in-Strict.done s (sem_of c.in-Strict.ty) c.in-Strict.at) c.exprs.new.heard c.form.new.heard)
    (c.sent_type.ensures ∙ ap (λ es. last_type (map typed_marks es)) c.deref-in-Strict.ensures.value) c.form.ensures))

pub expr-returns-in-Conditional : goal.expr-returns-in-Conditional
expr-returns-in-Conditional t c =
    subst (λ l. Grows c.args.spot l c.args.heard.now c.expr-in-Conditional-2.new.heard)
    (sym (ap expr_marks c.in-Conditional.is ∙ conditional-marks c.in-Conditional.condition c.in-Conditional.middle c.in-Conditional.last c.in-Conditional.ty c.in-Conditional.at))
    (grows-choice c.args.spot c.aside.result c.aside-in-Conditional.result _ _ _ c.args.heard.now c.expr.new.heard c.expr-in-Conditional.new.heard c.expr-in-Conditional-2.new.heard c.aside.ensures c.aside-in-Conditional.ensures
    (subst (λ e. Grows c.args.spot (expr_marks e) c.args.heard.now c.expr.new.heard) c.deref-in-Conditional.ensures c.expr.ensures)
    (subst (λ e. Grows c.aside.result (expr_marks e) c.expr.new.heard c.expr-in-Conditional.new.heard) c.deref-in-Conditional-2.ensures c.expr-in-Conditional.ensures)
    (subst (λ e. Grows c.aside-in-Conditional.result (expr_marks e) c.expr-in-Conditional.new.heard c.expr-in-Conditional-2.new.heard) c.deref-in-Conditional-3.ensures c.expr-in-Conditional-2.ensures))
