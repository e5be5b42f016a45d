use Rattle.std.proofs.Common.{◌≡◌, ◌≤◌, ◌+◌, length}
use Rattle.bal_tree.specs.Spells.{kinds_of}
use Rattle.parse_stmt.specs.Ahead.{semicolon}
use Rattle.parse_stmt.proofs.ahead.semicolon.Given as goal

abbrev pub invariant-loop-first : goal.invariant-loop-first
invariant-loop-first l = record {
  onward : semicolon 0 (kinds_of l.tokens) ≡ semicolon l.depth (kinds_of l.rest);
  slowly : l.depth + length l.rest ≤ length l.tokens;
}

abbrev pub decreases-loop-first : goal.decreases-loop-first
decreases-loop-first l = length l.rest
