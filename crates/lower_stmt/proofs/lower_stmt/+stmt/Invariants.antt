use Rattle.std.proofs.Common.{◌≡◌, map, option_map, take}
use Rattle.lower_model.specs.Making.{clause_made, clauses_in_turn, stmt_made, stmts_in_turn}
use Rattle.lower_expr.specs.Drafts.{making_of}
use Rattle.lower_stmt.specs.Turning.{turns_of}
use Rattle.lower_stmt.proofs.lower_stmt.+stmt.Given as goal

abbrev pub invariant-stmts-loop-s : goal.invariant-stmts-loop-s
invariant-stmts-loop-s l = making_of l.draft ≡ stmts_in_turn (map stmt_made (take l.s-index l.ss)) (option_map turns_of l.around) (making_of l.fn.draft)

abbrev pub invariant-clauses-loop-c : goal.invariant-clauses-loop-c
invariant-clauses-loop-c l = making_of l.draft ≡ clauses_in_turn (map clause_made (take l.c-index l.cs)) l.own l.end (option_map turns_of l.around) (making_of l.fn.draft)
