-- The signs of binary operators, by the ranks of their levels.
use Rattle.std.specs.Prelude.{◌==◌, ℕ, Bool, if◌then◌else◌, [], ◌∷◌, Option, None, Some}
use Rattle.bal_base.specs.declared.token.TokenKind.TheVariants.{Sign as SignKind}
use Rattle.bal_base.specs.declared.token.Sign.{Sign}
use Rattle.bal_base.specs.declared.token.Sign.TheVariants.{Star, Slash, Percent, Plus, Minus, Less as LessSign, LessEqual as LessEqualSign, Greater as GreaterSign, GreaterEqual as GreaterEqualSign, DoubleEqual, NotEqual as NotEqualSign, TripleEqual, NotTripleEqual, DoubleAmpersand, DoubleBar, Elvis as ElvisSign}
use Rattle.bal_tree.specs.declared.expr.BinaryOp.{BinaryOp}
use Rattle.bal_tree.specs.Levels.{rank, binding}
use Rattle.token_steps.specs.Tokens.{Kinds}

abbrev pub op_rank : BinaryOp → ℕ
op_rank op = rank (binding op).level

-- the level of a binary operator's sign, and 0 of any other
abbrev pub sign_level : Sign → ℕ
sign_level Star = 2
sign_level Slash = 2
sign_level Percent = 2
sign_level Plus = 3
sign_level Minus = 3
sign_level LessSign = 4
sign_level LessEqualSign = 4
sign_level GreaterSign = 4
sign_level GreaterEqualSign = 4
sign_level DoubleEqual = 5
sign_level NotEqualSign = 5
sign_level TripleEqual = 5
sign_level NotTripleEqual = 5
sign_level DoubleAmpersand = 6
sign_level DoubleBar = 7
sign_level ElvisSign = 8
sign_level _ = 0

abbrev pub take_op : ℕ → Kinds → Option Kinds
take_op k [] = None
take_op k (SignKind s ∷ ks) = if sign_level s == k then Some ks else None
take_op k (x ∷ ks) = None
