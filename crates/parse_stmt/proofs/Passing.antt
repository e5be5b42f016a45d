-- What looking ahead makes of tokens that hold no mark outside brackets: it passes over them.
use Rattle.std.proofs.Common.{◌≡◌, ℕ, zero, suc, ◌+◌, Bool, true, false, [], ◌∷◌, Option, None, Some, refl, sym, ap, ◌∙◌, add-one}
use Rattle.std.specs.Option.{option_map_or}
use Rattle.std.specs.Prelude.{option_and_then}
use Rattle.bal_base.specs.declared.token.TokenKind.{TokenKind}
use Rattle.bal_base.specs.declared.token.TokenKind.TheVariants.{Sign as SignKind}
use Rattle.bal_base.specs.declared.token.Sign.TheVariants.{Equal}
use Rattle.bal_tree.specs.Pieces.{Pieces, nothing, token, starts, ◌&◌}
use Rattle.bal_tree.specs.Spells.{onto}
use Rattle.parse_types.specs.Nesting.{depth_behind}
use Rattle.token_steps.specs.Tokens.{Kinds, take_sign}
use Rattle.parse_stmt.specs.Ahead.{semicolon, first_mark}

-- neither the semicolon nor a mark stands in the pieces outside brackets, and the last of their tokens joins nothing on
pub record Passes (p : Pieces) : Type 0 where
  pub semicolon : (depth : ℕ) (ks : Kinds) → semicolon depth (onto p ks) ≡ semicolon depth ks
  pub mark : (joined : Bool) (depth : ℕ) (ks : Kinds) → take_sign Equal ks ≡ None → first_mark joined depth (onto p ks) ≡ first_mark false depth ks
