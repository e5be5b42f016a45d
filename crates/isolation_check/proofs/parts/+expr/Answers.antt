use Rattle.std.proofs.Common.{arith, map, subst, sym}
use Rattle.typed_tree.specs.Listed.{joined}
use Rattle.isolation_check.specs.Parts.{expr_parts, form_parts}
use Rattle.isolation_check.proofs.Growing.{grows-both, grows-more}
use Rattle.isolation_check.proofs.Strict.{strict-parts}
use Rattle.isolation_check.specs.inner.Views.{Grows}
use Rattle.isolation_check.proofs.parts.+expr.Goals as goal

pub exprs-loop-e-preserved : goal.exprs-loop-e-preserved
exprs-loop-e-preserved t c =
    grows-more (λ e. expr_parts e c.args.within) c.args.es.now c.loop-e.e-index c.e-item.result _ _ _ (grind (arith, c.loop-e-test.true)) c.e-item.is c.loop-e.invariant c.expr.ensures

pub expr-returns-in-Strict : goal.expr-returns-in-Strict
expr-returns-in-Strict t c =
    subst (λ l. Grows l c.args.found.now c.exprs.new.found) (sym (strict-parts c.args.e.now c.args.within c.in-Strict.done c.in-Strict.operands _ c.in-Strict.at c.in-Strict.is))
    (grows-both _ _ c.args.found.now c.form.new.found c.exprs.new.found
    (subst (λ es. Grows (form_parts c.in-Strict.done es c.in-Strict.at c.args.within) c.args.found.now c.form.new.found) c.deref.ensures.value c.form.ensures)
    (subst (λ es. Grows (joined (map (λ e. expr_parts e c.args.within) es)) c.form.new.found c.exprs.new.found) c.deref-in-Strict.ensures.value c.exprs.ensures))
