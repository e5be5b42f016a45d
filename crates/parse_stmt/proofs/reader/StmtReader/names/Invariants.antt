use Rattle.std.proofs.Common.{◌≡◌, ◌<◌, true, Some, map, length}
use Rattle.bal_base.specs.declared.token.Sign.TheVariants.{Bar}
use Rattle.bal_tree.specs.ActionRules.{has_members}
use Rattle.bal_tree.specs.Pieces.{separated}
use Rattle.bal_tree.specs.NamePieces.{name_pieces}
use Rattle.bal_tree.specs.Spells.{Spells, kinds_of}
use Rattle.parse_types.specs.Loops.{many}
use Rattle.parse_stmt.specs.Reaches.{names, bar_name}
use Rattle.parse_stmt.proofs.reader.StmtReader.names.Given as goal

abbrev pub invariant-loop-names : goal.invariant-loop-names
invariant-loop-names l = record {
  goes : names (kinds_of l.fn.tokens) ≡ Some (many length bar_name (kinds_of l.rest));
  formed : has_members l.names.items ≡ true;
  spells : Spells l.self.file (separated Bar (map name_pieces l.names.items)) l.fn.tokens l.rest;
  shorter : length l.rest < length l.fn.tokens;
}

abbrev pub decreases-loop-names : goal.decreases-loop-names
decreases-loop-names l = length l.rest
