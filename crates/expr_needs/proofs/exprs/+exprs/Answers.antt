use Rattle.std.proofs.Common.{arith, false, length, map, rules, sym, subst, ◌≡◌}
use Rattle.bal_tree.proofs.ExprLayers.{expr_layers}
use Rattle.typed_tree.specs.Listed.{one, ◌&◌}
use Rattle.needs.specs.Needs.{Runs}
use Rattle.needs.proofs.Running.{runs-both, runs-more, running}
use Rattle.expr_needs.specs.ExprTable.{argument_needs, called_needs, callee_needs, freely, item_needs, method_needs, read_call, read_detail, read_expr, read_member, read_postfix, receiver_needs}
use Rattle.expr_needs.specs.Needs.{MakesCall}
use Rattle.expr_needs.proofs.exprs.+exprs.Goals as goal

pub call-arguments-requires : goal.call-arguments-requires
call-arguments-requires g t c κs within = (search (rules, arith, expr_layers), search rules)

pub call-arguments-requires-in-Method : goal.call-arguments-requires-in-Method
call-arguments-requires-in-Method g t c κs within = (search (rules, arith, expr_layers), search rules)

pub call-returns-in-Function-clause-met : goal.call-returns-in-Function-clause-met
call-returns-in-Function-clause-met g t c =
    let e : (read_call c.args.e.now).needs c.args.expected
    ≡ called_needs false (read_postfix c.deref.result.now) (map read_expr c.deref-in-Function.result.now) c.in-Function.at
    & one (MakesCall c.in-Function.at) = search (rules, expr_layers) in
    let many : c.len.result ≡ length (map read_expr c.deref-in-Function.result.now) = search (rules, running) in
    subst (λ l. Runs g.M.MeetsExprs.meaning l (g.M.MeetsExprs.going c.args.work.now) (g.M.MeetsExprs.going c.makes_call.new.self)) (sym e)
    (runs-both _ _ _ _ _ _ (runs-both _ _ _ _ _ _
    (subst (λ n. Runs g.M.MeetsExprs.meaning (callee_needs false (read_postfix c.deref.result.now).name (read_postfix c.deref.result.now) n c.in-Function.at)
    (g.M.MeetsExprs.going c.args.work.now) (g.M.MeetsExprs.going c.callee.new.work)) many c.callee.ensures.met)
    c.arguments.ensures.met) c.makes_call.ensures.met)

pub call-returns-in-Method-clause-met : goal.call-returns-in-Method-clause-met
call-returns-in-Method-clause-met g t c =
    let e : (read_call c.args.e.now).needs c.args.expected
    ≡ method_needs (read_postfix c.deref-in-Method.result.now) c.in-Method.method (map read_expr c.deref-in-Method-2.result.now) c.in-Method.at
    & one (MakesCall c.in-Method.at) = search (rules, expr_layers) in
    let many : c.len-in-Method.result ≡ length (map read_expr c.deref-in-Method-2.result.now) = search (rules, running) in
    subst (λ l. Runs g.M.MeetsExprs.meaning l (g.M.MeetsExprs.going c.args.work.now) (g.M.MeetsExprs.going c.makes_call-in-Method.new.self)) (sym e)
    (runs-both _ _ _ _ _ _ (runs-both _ _ _ _ _ _
    (subst (λ n. Runs g.M.MeetsExprs.meaning (receiver_needs (read_postfix c.deref-in-Method.result.now) c.in-Method.method n c.in-Method.at)
    (g.M.MeetsExprs.going c.args.work.now) (g.M.MeetsExprs.going c.received.new.work)) many c.received.ensures.met)
    c.arguments-in-Method.ensures.met) c.makes_call-in-Method.ensures.met)

pub primary-detailed-requires : goal.primary-detailed-requires
primary-detailed-requires g t c κs within = (search (rules, arith, expr_layers), search rules)

pub primary-detailed-requires-in-Error-default-Some-default-default : goal.primary-detailed-requires-in-Error-default-Some-default-default
primary-detailed-requires-in-Error-default-Some-default-default g t c κs within = (search (rules, arith, expr_layers), search rules)

pub arguments-loop-e-preserved : goal.arguments-loop-e-preserved
arguments-loop-e-preserved g t c = record {
  stands = c.argument.ensures.stands;
  met = runs-more _ _ read_expr (argument_needs c.args.at) c.args.args.now c.loop-e.e-index c.e-item.result _ _ _
      (grind (arith, c.loop-e-test.true)) c.e-item.is c.loop-e.invariant.met c.argument.ensures.met;
}

pub items-loop-e-preserved : goal.items-loop-e-preserved
items-loop-e-preserved g t c = record {
  stands = c.item.ensures.stands;
  met = runs-more _ _ read_expr item_needs c.args.es.now c.loop-e.e-index c.e-item.result _ _ _
      (grind (arith, c.loop-e-test.true)) c.e-item.is c.loop-e.invariant.met c.item.ensures.met;
}

pub members-loop-m-preserved : goal.members-loop-m-preserved
members-loop-m-preserved g t c = record {
  stands = c.member.ensures.stands;
  met = runs-more _ _ read_member freely c.args.ms.now c.loop-m.m-index c.m-item.result _ _ _
      (grind (arith, c.loop-m-test.true)) c.m-item.is c.loop-m.invariant.met c.member.ensures.met;
}

pub details-loop-d-preserved : goal.details-loop-d-preserved
details-loop-d-preserved g t c = record {
  stands = c.detail.ensures.stands;
  met = runs-more _ _ read_detail freely c.args.ds.now c.loop-d.d-index c.d-item.result _ _ _
      (grind (arith, c.loop-d-test.true)) c.d-item.is c.loop-d.invariant.met c.detail.ensures.met;
}
