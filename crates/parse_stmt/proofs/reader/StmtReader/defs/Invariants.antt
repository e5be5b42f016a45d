use Rattle.std.proofs.Common.{◌≡◌, true, map, length}
use Rattle.std.specs.List.{list_all}
use Rattle.bal_tree.specs.DefPieces.{def_pieces}
use Rattle.bal_tree.specs.DefRules.{def_is_formed}
use Rattle.bal_tree.specs.Pieces.{joined}
use Rattle.bal_tree.specs.Spells.{Spells}
use Rattle.parse_stmt.specs.Chosen.{AreChosen, led_in_defs}
use Rattle.parse_stmt.proofs.reader.StmtReader.defs.Given as goal

abbrev pub invariant-loop-defs : goal.invariant-loop-defs
invariant-loop-defs l = record {
  chosen : AreChosen (led_in_defs l.defs.items);
  formed : list_all def_is_formed l.defs.items ≡ true;
  spells : Spells l.self.file (joined (map def_pieces l.defs.items)) l.fn.tokens l.rest;
}

abbrev pub decreases-loop-defs : goal.decreases-loop-defs
decreases-loop-defs l = length l.rest
