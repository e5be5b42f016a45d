use Rattle.std.proofs.Common.{map, take}
use Rattle.needs.specs.Needs.{Runs, in_turn}
use Rattle.stmt_needs.specs.PackageTable.{in_part, within}
use Rattle.stmt_needs.specs.StmtTable.{read_clause}
use Rattle.stmt_needs.proofs.Walking.{FirstAreMet}
use Rattle.stmt_needs.proofs.blocks.+stmts.Given as goal

abbrev pub invariant-stmts-loop-i : goal.invariant-stmts-loop-i
invariant-stmts-loop-i g l = record {
  stands : g.M.MeetsExprs.stands l.work;
  met : FirstAreMet g.M.MeetsExprs.meaning (in_part l.in_loop l.workers l.rest) l.ss l.i (g.M.MeetsExprs.going l.initial.work) (g.M.MeetsExprs.going l.work);
}

abbrev pub invariant-clauses-loop-c : goal.invariant-clauses-loop-c
invariant-clauses-loop-c g l = record {
  stands : g.M.MeetsExprs.stands l.work;
  met : Runs g.M.MeetsExprs.meaning (in_turn (λ c. c.needs (within l.around)) (map read_clause (take l.c-index l.cs))) (g.M.MeetsExprs.going l.initial.work) (g.M.MeetsExprs.going l.work);
}
