use Rattle.std.proofs.Common.{◌∙◌, ap, arith, map, sym}
use Rattle.typed_tree.specs.Listed.{joined, run}
use Rattle.typed_tree.specs.Units.{expr_units}
use Rattle.typed_tree.proofs.Running.{run-more}
use Rattle.package_units.specs.Noted.{noted, noted_of}
use Rattle.package_units.proofs.Meeting.{strict-units}
use Rattle.package_units.proofs.walk_exprs.+expr.Goals as goal

pub exprs-loop-e-preserved : goal.exprs-loop-e-preserved
exprs-loop-e-preserved t c =
    run-more noted expr_units c.args.es.now c.loop-e.e-index c.e-item.result _ _ _ (grind (arith, c.loop-e-test.true)) c.e-item.is c.loop-e.invariant c.expr.ensures

pub expr-returns-in-Strict : goal.expr-returns-in-Strict
expr-returns-in-Strict t c =
    c.exprs.ensures ∙ ap (λ xs. run noted (joined (map expr_units xs)) (noted_of c.args.n.now)) c.deref.ensures.value
    ∙ sym (ap (λ l. run noted l (noted_of c.args.n.now)) (strict-units c.args.e.now _ c.in-Strict.operands _ _ c.in-Strict.is))
