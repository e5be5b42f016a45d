use Rattle.std.proofs.Common.{◌≡◌, ◌≤◌, ◌++◌, take, drop}
use Rattle.parse_types.specs.Nesting.{enclosed}
use Rattle.bal_tree.specs.Spells.{kinds_of}
use Rattle.parse_types.proofs.nesting.enclosed_len.Given as goal

abbrev pub invariant-loop-i : goal.invariant-loop-i
invariant-loop-i l = record {
  front : enclosed 0 (kinds_of l.tokens) ≡ kinds_of (take l.i l.tokens) ++ enclosed l.depth (kinds_of (drop l.i l.tokens));
  slowly : l.depth ≤ l.i;
}
