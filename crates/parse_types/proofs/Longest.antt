-- The reader of the longest type: what it leaves behind a type, for the parsers of what holds types.
use Rattle.std.proofs.Common.{◌≡◌, ◌≤◌, Bool, true, List, length, Some, sym, ap, ◌∙◌, arith}
use Rattle.bal_base.specs.declared.token.Token.{Token}
use Rattle.bal_tree.specs.declared.types.TypeTree.{TypeTree}
use Rattle.bal_tree.specs.Pieces.{Pieces}
use Rattle.bal_tree.specs.Spells.{onto, kinds_of}
use Rattle.bal_tree.specs.TypePieces.{type_pieces}
use Rattle.bal_tree.specs.TypeRules.{TypeEnd, type_end, type_is_formed}
use Rattle.parse_types.specs.Reaches.{Left, union, inside, longest_type}
use Rattle.token_steps.specs.Tokens.{Kinds}
use Rattle.parse_types.proofs.Follows.{Stays, Ends}
use Rattle.parse_types.proofs.Law.{all_loops, all_loops-less, all_loops-end, follows-both}
use Rattle.parse_types.proofs.Readings.{length-kinds}
use Rattle.parse_types.proofs.WholeLaw.{type-law}

pub union-longest : (middle : Bool) (tokens : List Token) → union (inside (length tokens)) middle (kinds_of tokens) ≡ longest_type middle (kinds_of tokens)
unfolding longest_type
union-longest middle tokens = ap (λ n. union (inside n) middle (kinds_of tokens)) (sym (length-kinds tokens))

-- behind a type with these pieces and this end no more is left than stood there, and just that where no type could go on
-- with it
pub record Longest (middle : Bool) (p : Pieces) (end : TypeEnd) (ks : Kinds) : Type 0 where
  pub left : Left
  pub is : longest_type middle (onto p ks) ≡ Some left
  pub no_more : length left.rest ≤ length ks
  pub just : Stays middle end.in_int ks → Ends ks → left ≡ record { in_result = end.in_result; rest = ks }

pub longest-law : (t : TypeTree) (middle : Bool) (ks : Kinds) → type_is_formed t middle ≡ true → Longest middle (type_pieces t) (type_end t) ks
unfolding longest_type
longest-law t middle ks formed =
    let end = type_end t in
    let n = length (onto (type_pieces t) ks) in
    let at = type-law t n middle ks formed (omega arith) in
    let less = all_loops-less n middle at.left in
    let no_more = at.went.no_more in
    record {
      left = all_loops n middle at.left;
      is = at.is;
      no_more = omega arith;
      just = λ s e. ap (all_loops n middle) (at.went.just (follows-both middle end.in_int end.in_result ks s e)) ∙ all_loops-end n middle end.in_result ks e;
    }
