use Rattle.std.proofs.Common.{◌≡◌, ◌≤◌, ◌+◌, true, length}
use Rattle.bal_tree.specs.Spells.{kinds_of}
use Rattle.parse_stmt.specs.Ahead.{first_mark}
use Rattle.parse_stmt.proofs.ahead.first_mark.Given as goal

abbrev pub invariant-loop-first : goal.invariant-loop-first
invariant-loop-first l = record {
  onward : first_mark true 0 (kinds_of l.tokens) ≡ first_mark l.joined l.depth (kinds_of l.rest);
  slowly : l.depth + length l.rest ≤ length l.tokens;
}

abbrev pub decreases-loop-first : goal.decreases-loop-first
decreases-loop-first l = length l.rest
