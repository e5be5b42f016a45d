-- What takes the rest of a list, which may be absent.
use Rattle.std.specs.Prelude.{Bool, true, Option, None, Some}
use Rattle.std.specs.Global.{Box}
use Rattle.bal_base.specs.declared.token.Sign.TheVariants.{Semicolon}
use Rattle.bal_tree.specs.declared.types.TypeTree.{TypeTree}
use Rattle.bal_tree.specs.Pieces.{Pieces, ◌&◌, sign, if_boxed}
use Rattle.bal_tree.specs.TypePieces.{type_pieces, as_rest}
use Rattle.bal_tree.specs.TypeRules.{type_is_formed}

abbrev pub rest_is_formed : Bool → Option (Box TypeTree) → Bool
rest_is_formed middle None = true
rest_is_formed middle (Some t) = type_is_formed t.value middle

-- `T...;`, or nothing
abbrev pub rest_field_pieces : Option (Box TypeTree) → Pieces
rest_field_pieces rest = if_boxed (λ t. as_rest (type_pieces t) & sign Semicolon) rest
