use Rattle.std.proofs.Common.{map, take}
use Rattle.bal_base.specs.declared.token.Sign.TheVariants.{Comma}
use Rattle.bal_tree.specs.Pieces.{joined, separated}
use Rattle.bal_tree.specs.Writing.{Writes}
use Rattle.bal_tree.specs.TypePieces.{type_pieces, field_pieces, param_type_pieces}
use Rattle.bal_tree.proofs.writing.types.+types.Given as goal

abbrev pub invariant-type_list-loop-i : goal.invariant-type_list-loop-i
invariant-type_list-loop-i l = Writes l.initial.out (separated Comma (map type_pieces (take l.i l.types))) l.out

abbrev pub invariant-field_list-loop-f : goal.invariant-field_list-loop-f
invariant-field_list-loop-f l = Writes l.initial.out (joined (map field_pieces (take l.f-index l.fields))) l.out

abbrev pub invariant-param_type_list-loop-i : goal.invariant-param_type_list-loop-i
invariant-param_type_list-loop-i l = Writes l.initial.out (separated Comma (map param_type_pieces (take l.i l.params))) l.out
