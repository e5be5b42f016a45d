use Rattle.std.proofs.Common.{map, take}
use Rattle.bal_base.specs.declared.token.Sign.TheVariants.{Comma}
use Rattle.bal_tree.specs.Pieces.{separated}
use Rattle.bal_tree.specs.Writing.{Writes}
use Rattle.bal_tree.specs.ActionPieces.{wait_member_pieces}
use Rattle.bal_tree.proofs.writing.actions.wait_members.Given as goal

abbrev pub invariant-loop-i : goal.invariant-loop-i
invariant-loop-i l = Writes l.initial.out (separated Comma (map wait_member_pieces (take l.i l.members))) l.out
