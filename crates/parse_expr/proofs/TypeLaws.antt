-- The reader of types at a type, as the reader of expressions calls it.
use Rattle.std.proofs.Common.{◌≡◌, ℕ, ◌≤◌, Bool, true, false, ◌∷◌, length, Option, None, Some, refl, ap, ◌∙◌, arith}
use Rattle.std.specs.Prelude.{option_map}
use Rattle.bal_base.specs.declared.token.TokenKind.TheVariants.{Sign as SignKind}
use Rattle.bal_base.specs.declared.token.Sign.TheVariants.{CloseParen}
use Rattle.bal_tree.specs.declared.types.TypeTree.{TypeTree}
use Rattle.bal_tree.specs.Spells.{onto}
use Rattle.bal_tree.specs.TypePieces.{type_pieces}
use Rattle.bal_tree.specs.TypeRules.{type_is_formed, type_end}
use Rattle.parse_types.specs.Reaches.{Left, postfix, intersection, union, longest_type}
use Rattle.token_steps.specs.Tokens.{Kinds}
use Rattle.parse_types.proofs.Follows.{Closes, closes-stay}
use Rattle.parse_types.proofs.Longest.{longest-law}
use Rattle.parse_expr.specs.Reaches.{type_rest, type_at}
use Rattle.parse_expr.proofs.Follows.{TypeAt, TypeEnds}

pub type-reads : (t : TypeTree) (middle : Bool) (ks : Kinds) → type_is_formed t middle ≡ true → TypeAt middle (type_at middle) (type_pieces t) (type_end t).in_int ks
unfolding type_at
type-reads t middle ks formed =
    let at = longest-law t middle ks formed in
    record {
      rest = at.left.rest;
      is = ap (option_map type_rest) at.is;
      no_more = at.no_more;
      just = λ e. ap (λ (l : Left). l.rest) (at.just e.0 e.1);
    }

pub type-before : (t : TypeTree) (middle : Bool) (ks : Kinds) → type_is_formed t middle ≡ true → Closes ks → type_at middle (onto (type_pieces t) ks) ≡ Some ks
type-before t middle ks formed c =
    let at = type-reads t middle ks formed in
    at.is ∙ ap Some (at.just (closes-stay middle (type_end t).in_int ks c, c.ends))

-- no type begins with `)`
pub no-type-at-paren : (middle : Bool) (ks : Kinds) → type_at middle (SignKind CloseParen ∷ ks) ≡ None
unfolding type_at longest_type union intersection postfix
no-type-at-paren middle ks = refl
