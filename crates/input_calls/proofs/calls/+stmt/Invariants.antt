use Rattle.std.proofs.Common.{◌≡◌, map, take}
use Rattle.typed_tree.specs.Listed.{run, joined}
use Rattle.input_calls.specs.Calls.{asked, clause_calls, stmt_calls}
use Rattle.input_calls.proofs.calls.+stmt.Given as goal

abbrev pub invariant-clauses-loop-c : goal.invariant-clauses-loop-c
invariant-clauses-loop-c l = l.found ≡ run asked (joined (map clause_calls (take l.c-index l.clauses))) l.before

abbrev pub invariant-stmts-loop-s : goal.invariant-stmts-loop-s
invariant-stmts-loop-s l = l.found ≡ run asked (joined (map stmt_calls (take l.s-index l.stmts))) l.before
