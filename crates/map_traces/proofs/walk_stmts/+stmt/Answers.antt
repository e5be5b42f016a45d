use Rattle.std.proofs.Common.{arith}
use Rattle.map_traces.specs.Events.{known_of}
use Rattle.map_traces.specs.Trees.{clause_traced, stmt_traced}
use Rattle.map_traces.proofs.Turning.{turn-more, turn-more-with}
use Rattle.map_traces.proofs.walk_stmts.+stmt.Goals as goal

pub stmts-loop-s-preserved : goal.stmts-loop-s-preserved
stmts-loop-s-preserved t c =
    turn-more (stmt_traced (known_of c.args.around)) c.args.ss.now c.loop-s.s-index c.s-item.result _ _ _ (grind (arith, c.loop-s-test.true)) c.s-item.is c.loop-s.invariant c.in_ok-stmt.ensures

pub clauses-loop-c-preserved : goal.clauses-loop-c-preserved
clauses-loop-c-preserved t c =
    turn-more-with (clause_traced (known_of c.args.around)) c.args.own c.args.cs.now c.loop-c.c-index c.c-item.result _ _ _ (grind (arith, c.loop-c-test.true)) c.c-item.is c.loop-c.invariant c.in_ok-clause.ensures
