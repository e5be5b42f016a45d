use Rattle.std.proofs.Common.{◌≡◌, ◌+◌, ◌*◌, ◌≤◌, ◌<◌, true, Some, map, length}
use Rattle.std.specs.List.{list_all}
use Rattle.bal_tree.specs.ActionRules.{has_members}
use Rattle.bal_tree.specs.Pieces.{joined}
use Rattle.bal_tree.specs.Spells.{Spells, kinds_of}
use Rattle.bal_tree.specs.StmtPieces.{clause_pieces, stmt_pieces}
use Rattle.bal_tree.specs.StmtRules.{clause_is_formed, stmt_is_formed}
use Rattle.parse_types.specs.Loops.{many}
use Rattle.parse_stmt.specs.Chosen.{AreChosen, led_in_clauses, led_in_stmts}
use Rattle.parse_stmt.specs.Reaches.{clause, clauses, inside, stmts}
use Rattle.parse_stmt.proofs.reader.StmtReader.+stmts.Given as goal

abbrev pub decreases-inner_block : goal.decreases-inner_block
decreases-inner_block l = l.room * 16 + 0

abbrev pub decreases-inner_if : goal.decreases-inner_if
decreases-inner_if l = l.room * 16 + 0

abbrev pub decreases-block : goal.decreases-block
decreases-block l = l.room * 16 + 14

abbrev pub decreases-stmts : goal.decreases-stmts
decreases-stmts l = l.room * 16 + 12

abbrev pub decreases-stmt : goal.decreases-stmt
decreases-stmt l = l.room * 16 + 10

abbrev pub decreases-brace_stmt : goal.decreases-brace_stmt
decreases-brace_stmt l = l.room * 16 + 8

abbrev pub decreases-keyword_stmt : goal.decreases-keyword_stmt
decreases-keyword_stmt l = l.room * 16 + 8

abbrev pub decreases-if_stmt : goal.decreases-if_stmt
decreases-if_stmt l = l.room * 16 + 6

abbrev pub decreases-else_if_there : goal.decreases-else_if_there
decreases-else_if_there l = l.room * 16 + 4

abbrev pub decreases-else_behind : goal.decreases-else_behind
decreases-else_behind l = l.room * 16 + 2

abbrev pub decreases-while_stmt : goal.decreases-while_stmt
decreases-while_stmt l = l.room * 16 + 4

abbrev pub decreases-foreach : goal.decreases-foreach
decreases-foreach l = l.room * 16 + 4

abbrev pub decreases-match_stmt : goal.decreases-match_stmt
decreases-match_stmt l = l.room * 16 + 6

abbrev pub decreases-clauses : goal.decreases-clauses
decreases-clauses l = l.room * 16 + 4

abbrev pub decreases-clause : goal.decreases-clause
decreases-clause l = l.room * 16 + 2

abbrev pub invariant-stmts-loop-stmts : goal.invariant-stmts-loop-stmts
invariant-stmts-loop-stmts l = record {
  goes : stmts (inside l.room) (kinds_of l.fn.tokens) ≡ stmts (inside l.room) (kinds_of l.rest);
  chosen : AreChosen (led_in_stmts l.stmts.items);
  formed : list_all stmt_is_formed l.stmts.items ≡ true;
  spells : Spells l.self.file (joined (map stmt_pieces l.stmts.items)) l.fn.tokens l.rest;
  no_longer : length l.rest ≤ length l.fn.tokens;
}

abbrev pub decreases-stmts-loop-stmts : goal.decreases-stmts-loop-stmts
decreases-stmts-loop-stmts l = length l.rest

abbrev pub invariant-clauses-loop-clauses : goal.invariant-clauses-loop-clauses
invariant-clauses-loop-clauses l = record {
  goes : clauses (inside l.room) (kinds_of l.fn.tokens) ≡ Some (many length (clause (inside l.room)) (kinds_of l.rest));
  some : has_members l.clauses.items ≡ true;
  chosen : AreChosen (led_in_clauses l.clauses.items);
  formed : list_all clause_is_formed l.clauses.items ≡ true;
  spells : Spells l.self.file (joined (map clause_pieces l.clauses.items)) l.fn.tokens l.rest;
  shorter : length l.rest < length l.fn.tokens;
}

abbrev pub decreases-clauses-loop-clauses : goal.decreases-clauses-loop-clauses
decreases-clauses-loop-clauses l = length l.rest
