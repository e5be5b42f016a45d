use Rattle.std.proofs.Common.{◌≡◌, ◌<◌, true, Some, map, length}
use Rattle.bal_base.specs.declared.token.Sign.TheVariants.{Comma}
use Rattle.bal_tree.specs.ActionRules.{has_members}
use Rattle.bal_tree.specs.Pieces.{separated}
use Rattle.bal_tree.specs.ActionPieces.{wait_member_pieces}
use Rattle.bal_tree.specs.Spells.{Spells, kinds_of}
use Rattle.parse_types.specs.Loops.{many}
use Rattle.parse_stmt.specs.Reaches.{wait_members, comma_member}
use Rattle.parse_stmt.proofs.reader.StmtReader.wait_members.Given as goal

abbrev pub invariant-loop-members : goal.invariant-loop-members
invariant-loop-members l = record {
  goes : wait_members (kinds_of l.fn.tokens) ≡ Some (many length comma_member (kinds_of l.rest));
  formed : has_members l.members.items ≡ true;
  spells : Spells l.self.file (separated Comma (map wait_member_pieces l.members.items)) l.fn.tokens l.rest;
  shorter : length l.rest < length l.fn.tokens;
}

abbrev pub decreases-loop-members : goal.decreases-loop-members
decreases-loop-members l = length l.rest
