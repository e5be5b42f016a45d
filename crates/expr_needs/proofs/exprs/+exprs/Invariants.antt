use Rattle.std.proofs.Common.{map, take}
use Rattle.needs.specs.Needs.{Runs, in_turn}
use Rattle.expr_needs.specs.ExprTable.{argument_needs, freely, item_needs, read_detail, read_expr, read_member}
use Rattle.expr_needs.proofs.exprs.+exprs.Given as goal

abbrev pub invariant-arguments-loop-e : goal.invariant-arguments-loop-e
invariant-arguments-loop-e g l = record {
  stands : g.M.MeetsExprs.stands l.work;
  met : Runs g.M.MeetsExprs.meaning (in_turn (argument_needs l.at) (map read_expr (take l.e-index l.args))) (g.M.MeetsExprs.going l.initial.work) (g.M.MeetsExprs.going l.work);
}

abbrev pub invariant-items-loop-e : goal.invariant-items-loop-e
invariant-items-loop-e g l = record {
  stands : g.M.MeetsExprs.stands l.work;
  met : Runs g.M.MeetsExprs.meaning (in_turn item_needs (map read_expr (take l.e-index l.es))) (g.M.MeetsExprs.going l.initial.work) (g.M.MeetsExprs.going l.work);
}

abbrev pub invariant-members-loop-m : goal.invariant-members-loop-m
invariant-members-loop-m g l = record {
  stands : g.M.MeetsExprs.stands l.work;
  met : Runs g.M.MeetsExprs.meaning (in_turn freely (map read_member (take l.m-index l.ms))) (g.M.MeetsExprs.going l.initial.work) (g.M.MeetsExprs.going l.work);
}

abbrev pub invariant-details-loop-d : goal.invariant-details-loop-d
invariant-details-loop-d g l = record {
  stands : g.M.MeetsExprs.stands l.work;
  met : Runs g.M.MeetsExprs.meaning (in_turn freely (map read_detail (take l.d-index l.ds))) (g.M.MeetsExprs.going l.initial.work) (g.M.MeetsExprs.going l.work);
}
