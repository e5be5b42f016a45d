use Rattle.std.proofs.Common.{◌≡◌, ◌<◌, true, Some, map, length}
use Rattle.bal_base.specs.declared.token.Sign.TheVariants.{Bar}
use Rattle.bal_tree.specs.ActionRules.{has_members}
use Rattle.bal_tree.specs.Pieces.{separated}
use Rattle.bal_tree.specs.StmtPieces.{pattern_pieces}
use Rattle.bal_tree.specs.Spells.{Spells, kinds_of}
use Rattle.parse_types.specs.Loops.{many}
use Rattle.parse_stmt.specs.Reaches.{patterns, bar_pattern}
use Rattle.parse_stmt.proofs.patterns.patterns.Given as goal

abbrev pub invariant-loop-patterns : goal.invariant-loop-patterns
invariant-loop-patterns l = record {
  goes : patterns (kinds_of l.fn.tokens) ≡ Some (many length bar_pattern (kinds_of l.rest));
  formed : has_members l.patterns.items ≡ true;
  spells : Spells l.file (separated Bar (map pattern_pieces l.patterns.items)) l.fn.tokens l.rest;
  shorter : length l.rest < length l.fn.tokens;
}

abbrev pub decreases-loop-patterns : goal.decreases-loop-patterns
decreases-loop-patterns l = length l.rest
