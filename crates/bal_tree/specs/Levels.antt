-- The levels of expressions, from the tightest to the loosest, and the operands that an operator takes.
use Rattle.std.specs.Prelude.{ℕ, Bool, ◌&&◌, nat_lt, nat_le}
use Rattle.bal_tree.specs.declared.level.Level.{Level}
use Rattle.bal_tree.specs.declared.level.Level.TheVariants.{Postfix, Prefix, Product, Sum, Comparison, Equality, Conjunction, Disjunction, Elvis as ElvisLevel, Conditional, Loosest}
use Rattle.bal_tree.specs.declared.level.Grouping.{Grouping}
use Rattle.bal_tree.specs.declared.level.Grouping.TheVariants.{ToLeft, ToRight, NotAtAll}
use Rattle.bal_tree.specs.declared.expr.BinaryOp.{BinaryOp}
use Rattle.bal_tree.specs.declared.expr.BinaryOp.TheVariants.{Multiply, Divide, Remainder, Add, Subtract, Less, LessEqual, Greater, GreaterEqual, Equal, NotEqual, Same, NotSame, And, Or, Elvis}

abbrev pub rank : Level → ℕ
rank Postfix = 0
rank Prefix = 1
rank Product = 2
rank Sum = 3
rank Comparison = 4
rank Equality = 5
rank Conjunction = 6
rank Disjunction = 7
rank ElvisLevel = 8
rank Conditional = 9
rank Loosest = 10

unfoldable pub is_tighter : Level → Level → Bool
is_tighter a b = nat_lt (rank a) (rank b)

unfoldable pub is_no_looser : Level → Level → Bool
is_no_looser a b = nat_le (rank a) (rank b)

-- how an operator binds: its level, and how operators of the level group
pub record Binding : Type 0 where
  pub level : Level
  pub grouping : Grouping

abbrev pub to_left : Level → Binding
to_left l = record { level = l; grouping = ToLeft }

abbrev pub binding : BinaryOp → Binding
binding Multiply = to_left Product
binding Divide = to_left Product
binding Remainder = to_left Product
binding Add = to_left Sum
binding Subtract = to_left Sum
binding Less = record { level = Comparison; grouping = NotAtAll }
binding LessEqual = record { level = Comparison; grouping = NotAtAll }
binding Greater = record { level = Comparison; grouping = NotAtAll }
binding GreaterEqual = record { level = Comparison; grouping = NotAtAll }
binding Equal = to_left Equality
binding NotEqual = to_left Equality
binding Same = to_left Equality
binding NotSame = to_left Equality
binding And = to_left Conjunction
binding Or = to_left Disjunction
binding Elvis = record { level = ElvisLevel; grouping = ToRight }

-- operands of these levels may stand on the two sides of an operator of this level
abbrev pub takes_by : Grouping → Level → Level → Level → Bool
takes_by ToLeft l left right = is_no_looser left l && is_tighter right l
takes_by ToRight l left right = is_tighter left l && is_no_looser right l
takes_by NotAtAll l left right = is_tighter left l && is_tighter right l

unfoldable pub takes : BinaryOp → Level → Level → Bool
takes op left right = takes_by (binding op).grouping (binding op).level left right
