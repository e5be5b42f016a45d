use Rattle.std.proofs.Common.{◌≡◌, ◌<◌, true, Some, map, length}
use Rattle.std.specs.List.{list_all}
use Rattle.bal_tree.specs.ActionRules.{has_members}
use Rattle.bal_tree.specs.DefPieces.{worker_pieces}
use Rattle.bal_tree.specs.DefRules.{worker_is_formed}
use Rattle.bal_tree.specs.Pieces.{joined}
use Rattle.bal_tree.specs.Spells.{Spells, kinds_of}
use Rattle.parse_types.specs.Loops.{many}
use Rattle.parse_stmt.specs.Chosen.{AreChosen, led_in_workers}
use Rattle.parse_stmt.specs.Reaches.{worker, workers}
use Rattle.parse_stmt.proofs.reader.StmtReader.workers.Given as goal

abbrev pub invariant-loop-workers : goal.invariant-loop-workers
invariant-loop-workers l = record {
  goes : workers l.room (kinds_of l.fn.tokens) ≡ Some (many length (worker l.room) (kinds_of l.rest));
  some : has_members l.workers.items ≡ true;
  chosen : AreChosen (led_in_workers l.workers.items);
  formed : list_all worker_is_formed l.workers.items ≡ true;
  spells : Spells l.self.file (joined (map worker_pieces l.workers.items)) l.fn.tokens l.rest;
  shorter : length l.rest < length l.fn.tokens;
}

abbrev pub decreases-loop-workers : goal.decreases-loop-workers
decreases-loop-workers l = length l.rest
