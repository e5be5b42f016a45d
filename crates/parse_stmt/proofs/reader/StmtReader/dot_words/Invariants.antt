use Rattle.std.proofs.Common.{◌≡◌, ◌≤◌, map, length}
use Rattle.bal_base.specs.declared.token.Sign.TheVariants.{Dot}
use Rattle.bal_tree.specs.NamePieces.{word_pieces}
use Rattle.bal_tree.specs.Pieces.{behind}
use Rattle.bal_tree.specs.Spells.{Spells, kinds_of}
use Rattle.parse_types.specs.Loops.{many}
use Rattle.parse_stmt.specs.Reaches.{dot_word}
use Rattle.parse_stmt.proofs.reader.StmtReader.dot_words.Given as goal

abbrev pub invariant-loop-next : goal.invariant-loop-next
invariant-loop-next l = record {
  goes : many length dot_word (kinds_of l.fn.tokens) ≡ many length dot_word (kinds_of l.rest);
  spells : Spells l.self.file (behind Dot (map word_pieces l.words.items)) l.fn.tokens l.rest;
  no_longer : length l.rest ≤ length l.fn.tokens;
}

abbrev pub decreases-loop-next : goal.decreases-loop-next
decreases-loop-next l = length l.rest
