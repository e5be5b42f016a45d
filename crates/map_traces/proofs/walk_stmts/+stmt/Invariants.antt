use Rattle.std.proofs.Common.{◌≡◌, map, take}
use Rattle.map_traces.specs.Events.{known_of, tracing_of}
use Rattle.map_traces.specs.Trees.{clause_traced, clauses_in_turn, stmts_traced}
use Rattle.map_traces.proofs.walk_stmts.+stmt.Given as goal

abbrev pub invariant-stmts-loop-s : goal.invariant-stmts-loop-s
invariant-stmts-loop-s l = tracing_of l.trace ≡ stmts_traced (known_of l.around) (take l.s-index l.ss) (tracing_of l.fn.trace)

abbrev pub invariant-clauses-loop-c : goal.invariant-clauses-loop-c
invariant-clauses-loop-c l = tracing_of l.trace ≡ clauses_in_turn (map (clause_traced (known_of l.around)) (take l.c-index l.cs)) l.own (tracing_of l.fn.trace)
