-- What operators need of their operands, and what both make: a line for each family (Ballerina specification, "Multiplicative
-- expression" to "Conditional expression").
use Rattle.std.specs.Prelude.{true, false}
use Rattle.bal_base.specs.declared.place.Place.{Place}
use Rattle.bal_tree.specs.declared.expr.BinaryOp.{BinaryOp}
use Rattle.bal_tree.specs.declared.expr.BinaryOp.TheVariants as op
use Rattle.bal_tree.specs.declared.expr.PrefixOp.{PrefixOp}
use Rattle.bal_tree.specs.declared.expr.PrefixOp.TheVariants as prefix
use Rattle.typed_tree.specs.declared.form.Operator.TheVariants as operator
use Rattle.typed_tree.specs.Listed.{Listed, nothing, one, ◌&◌}
use Rattle.expr_needs.specs.declared.expected.Expected.{Expected}
use Rattle.expr_needs.specs.declared.expected.Expected.TheVariants.{Nothing, Immutable}
use Rattle.expr_needs.specs.declared.kind.Kind.{Kind}
use Rattle.expr_needs.specs.declared.kind.Kind.TheVariants as kind
use Rattle.expr_needs.specs.declared.operators.Family.{Family}
use Rattle.expr_needs.specs.declared.operators.Family.TheVariants.{Arithmetic, Sum, Order, Equality, Identity, Condition, Elvis}
use Rattle.expr_needs.specs.Needs.{Need, IsOf, Forms, Decides, IsSort, Adds, Compares, Splits, Turns, Conjoins, Disjoins, FillsNil, Checks, ChecksPanicking}

-- the type of a kind is expected; only whether its values are immutable counts
abbrev pub expectation : Kind → Expected
expectation kind.Integer = Immutable
expectation kind.Text = Immutable
expectation kind.IntOrText = Immutable
expectation kind.Truth = Immutable
expectation kind.Nothing = Immutable
expectation kind.Anydata = Nothing
expectation kind.Sendable = Nothing
expectation kind.AnyList = Nothing
expectation kind.AnyMapping = Nothing
expectation kind.MappingOrNil = Nothing
expectation kind.AnyFunction = Immutable
expectation kind.AnyError = Immutable
expectation kind.ErrorOrNil = Immutable
expectation kind.AnyFuture = Nothing

-- ---- behind a prefix

abbrev pub prefix_expects : PrefixOp → Expected
prefix_expects prefix.Negate = expectation kind.Integer
prefix_expects prefix.Not = expectation kind.Truth
prefix_expects prefix.Check = Nothing
prefix_expects prefix.CheckPanic = Nothing

-- `- a`, `! a`, `check a`, `checkpanic a`, where the operand and the whole stand here
abbrev pub prefix_needs : PrefixOp → Place → Place → Listed Need
prefix_needs prefix.Negate a at = one (IsOf kind.Integer a) & one (Forms operator.Negate 1 kind.Integer at)
prefix_needs prefix.Not a at = one (IsOf kind.Truth a) & one (Turns at)
prefix_needs prefix.Check a at = one (Checks at)
prefix_needs prefix.CheckPanic a at = one (ChecksPanicking at)

-- ---- between two operands

abbrev pub family_of : BinaryOp → Family
family_of op.Multiply = Arithmetic operator.Multiply
family_of op.Divide = Arithmetic operator.Divide
family_of op.Remainder = Arithmetic operator.Remainder
family_of op.Subtract = Arithmetic operator.Subtract
family_of op.Add = Sum
family_of op.Less = Order operator.Less
family_of op.LessEqual = Order operator.LessEqual
family_of op.Greater = Order operator.Greater
family_of op.GreaterEqual = Order operator.GreaterEqual
family_of op.Equal = Equality operator.Equal
family_of op.NotEqual = Equality operator.NotEqual
family_of op.Same = Identity operator.Same
family_of op.NotSame = Identity operator.NotSame
family_of op.And = Condition true
family_of op.Or = Condition false
family_of op.Elvis = Elvis

-- what is expected of the left one
abbrev pub left_expects : Family → Expected
left_expects (Arithmetic o) = expectation kind.Integer
left_expects Sum = expectation kind.IntOrText
left_expects (Order o) = expectation kind.IntOrText
left_expects (Equality o) = expectation kind.Anydata
left_expects (Identity o) = Nothing
left_expects (Condition holds) = expectation kind.Truth
left_expects Elvis = Nothing

-- what is needed of it before the right one
abbrev pub left_needs : Family → Place → Listed Need
left_needs (Arithmetic o) a = one (IsOf kind.Integer a)
left_needs Sum a = one (IsOf kind.IntOrText a) & one (Decides a)
left_needs (Order o) a = one (IsOf kind.IntOrText a) & one (Decides a)
left_needs (Equality o) a = one (IsOf kind.Anydata a)
left_needs (Identity o) a = nothing
left_needs (Condition holds) a = one (IsOf kind.Truth a) & one (Splits holds)
left_needs Elvis a = nothing

-- what is expected of the right one: of `?:` what is expected of the whole; ints and strings are both immutable
abbrev pub right_expects : Family → Expected → Expected
right_expects (Arithmetic o) e = expectation kind.Integer
right_expects Sum e = expectation kind.IntOrText
right_expects (Order o) e = expectation kind.IntOrText
right_expects (Equality o) e = expectation kind.Anydata
right_expects (Identity o) e = Nothing
right_expects (Condition holds) e = expectation kind.Truth
right_expects Elvis e = e

-- what is needed of it: ints where the left one is below int, and else strings
abbrev pub right_needs : Family → Place → Listed Need
right_needs (Arithmetic o) b = one (IsOf kind.Integer b)
right_needs Sum b = one (IsSort b)
right_needs (Order o) b = one (IsSort b)
right_needs (Equality o) b = one (IsOf kind.Anydata b)
right_needs (Identity o) b = nothing
right_needs (Condition holds) b = one (IsOf kind.Truth b)
right_needs Elvis b = nothing

-- what both make
abbrev pub made_of : Family → Place → Need
made_of (Arithmetic o) at = Forms o 2 kind.Integer at
made_of Sum at = Adds at
made_of (Order o) at = Compares o at
made_of (Equality o) at = Forms o 2 kind.Truth at
made_of (Identity o) at = Forms o 2 kind.Truth at
made_of (Condition true) at = Conjoins at
made_of (Condition false) at = Disjoins at
made_of Elvis at = FillsNil at
