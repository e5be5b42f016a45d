use Rattle.std.proofs.Common.{◌∙◌, ap, arith, map, subst, sym}
use Rattle.typed_tree.specs.SharedTypes.{sem_of}
use Rattle.worker_pairing.specs.Marks.{expr_marks, exprs_marks, last_type, typed_marks}
use Rattle.event_search.specs.inner.Walking.{Goes}
use Rattle.event_search.proofs.Walks.{goes-both, goes-choice, goes-more}
use Rattle.event_search.proofs.Layers.{conditional-marks, strict-marks}
use Rattle.event_search.proofs.exprs.+expr.Goals as goal

pub exprs-loop-e-preserved : goal.exprs-loop-e-preserved
exprs-loop-e-preserved t c =
    goes-more c.args.initial expr_marks c.args.es.now c.loop-e.e-index c.e-item.result _ _ _ (grind (arith, c.loop-e-test.true)) c.e-item.is c.loop-e.invariant c.expr.ensures

pub expr-returns-in-Strict : goal.expr-returns-in-Strict
expr-returns-in-Strict t c =
    subst (λ l. Goes c.args.initial l c.args.search.now c.form.new.search) (sym (strict-marks c.args.e.now c.in-Strict.done c.in-Strict.operands c.in-Strict.ty c.in-Strict.at c.in-Strict.is))
    (goes-both c.args.initial _ _ c.args.search.now c.exprs.new.search c.form.new.search
    (subst (λ es. Goes c.args.initial (exprs_marks es) c.args.search.now c.exprs.new.search) c.deref.ensures.value c.exprs.ensures)
    (c.form.ensures (last_type (map typed_marks c.in-Strict.operands.items)) (sem_of c.in-Strict.ty)))

pub expr-returns-in-Conditional : goal.expr-returns-in-Conditional
expr-returns-in-Conditional t c =
    subst (λ l. Goes c.args.initial l c.args.search.now c.expr-in-Conditional-2.new.search)
    (sym (ap expr_marks c.in-Conditional.is ∙ conditional-marks c.in-Conditional.condition c.in-Conditional.middle c.in-Conditional.last c.in-Conditional.ty c.in-Conditional.at))
    (goes-choice c.args.initial _ _ _ c.args.search.now c.expr.new.search c.expr-in-Conditional.new.search c.expr-in-Conditional-2.new.search
    (subst (λ e. Goes c.args.initial (expr_marks e) c.args.search.now c.expr.new.search) c.deref-in-Conditional.ensures c.expr.ensures)
    (subst (λ e. Goes c.args.initial (expr_marks e) c.expr.new.search c.expr-in-Conditional.new.search) c.deref-in-Conditional-2.ensures c.expr-in-Conditional.ensures)
    (subst (λ e. Goes c.args.initial (expr_marks e) c.expr-in-Conditional.new.search c.expr-in-Conditional-2.new.search) c.deref-in-Conditional-3.ensures c.expr-in-Conditional-2.ensures))
