use Rattle.std.proofs.Common.{◌≡◌, map, length}
use Rattle.bal_tree.specs.DefPieces.{import_pieces}
use Rattle.bal_tree.specs.Pieces.{joined}
use Rattle.bal_tree.specs.Spells.{Spells}
use Rattle.parse_stmt.proofs.reader.StmtReader.imports.Given as goal

abbrev pub invariant-loop-imports : goal.invariant-loop-imports
invariant-loop-imports l = Spells l.self.file (joined (map import_pieces l.imports.items)) l.fn.tokens l.rest

abbrev pub decreases-loop-imports : goal.decreases-loop-imports
decreases-loop-imports l = length l.rest
