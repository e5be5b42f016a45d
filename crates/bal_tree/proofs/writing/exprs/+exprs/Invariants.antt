use Rattle.std.proofs.Common.{map, take}
use Rattle.bal_base.specs.declared.token.Sign.TheVariants.{Comma}
use Rattle.bal_tree.specs.Pieces.{behind, separated}
use Rattle.bal_tree.specs.Writing.{Writes}
use Rattle.bal_tree.specs.ExprPieces.{expr_pieces, member_pieces, detail_pieces}
use Rattle.bal_tree.proofs.writing.exprs.+exprs.Given as goal

abbrev pub invariant-exprs-loop-i : goal.invariant-exprs-loop-i
invariant-exprs-loop-i l = Writes l.initial.out (separated Comma (map expr_pieces (take l.i l.es))) l.out

abbrev pub invariant-member_list-loop-i : goal.invariant-member_list-loop-i
invariant-member_list-loop-i l = Writes l.initial.out (separated Comma (map member_pieces (take l.i l.ms))) l.out

abbrev pub invariant-detail_list-loop-d : goal.invariant-detail_list-loop-d
invariant-detail_list-loop-d l = Writes l.initial.out (behind Comma (map detail_pieces (take l.d-index l.ds))) l.out
