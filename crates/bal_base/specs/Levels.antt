-- How many levels a shape has. A simple shape has none.
use Rattle.std.specs.Prelude.{ℕ, ◌+◌, max}
use Rattle.bal_base.specs.declared.shape.Shape.{Shape, Nil, Bool, Int, Str, List', Mapping', Error', Function, Future', Row_of-Shape, end_of-Shape, more_of-Shape, Row_of-Fields-items-2 as Row_of-Field, end_of-Fields-items-2 as end_of-Field, more_of-Fields-items-2 as more_of-Field}
use Rattle.bal_base.specs.declared.shape.Case.{Held-Case-result, None', Some'}
use Rattle.bal_base.specs.declared.shape.Graph.{Graph, Graph', Row_of-Case, end_of-Case, more_of-Case}

-- A list, mapping, error or future has one more than the greatest of its parts. A function has one more than
-- the greatest of its results and of its arguments, which count as a list. The greatest of nothing is 0.
abbrev mutual
  pub levels : Shape → ℕ
  levels Nil = 0
  levels (Bool b) = 0
  levels (Int i) = 0
  levels (Str t) = 0
  levels (List' mark _ items) = greatest items + 1
  levels (Mapping' mark _ fields) = greatest_field fields + 1
  levels (Error' _ detail) = levels detail + 1
  levels (Function isolated graph) = greatest_of graph + 1
  levels (Future' _ results) = greatest results + 1

  pub greatest : {n : _} → Row_of-Shape n → ℕ
  greatest end_of-Shape = 0
  greatest (more_of-Shape x rest) = max (levels x) (greatest rest)

  pub greatest_field : {n : _} → Row_of-Field n → ℕ
  greatest_field end_of-Field = 0
  greatest_field (more_of-Field key x rest) = max (levels x) (greatest_field rest)

  pub greatest_of : Graph → ℕ
  greatest_of (Graph' _ cases) = greatest_case cases

  pub greatest_case : {n : _} → Row_of-Case n → ℕ
  greatest_case end_of-Case = 0
  greatest_case (more_of-Case _ args result rest) = max (max (greatest args + 1) (levels_of result)) (greatest_case rest)

  pub levels_of : Held-Case-result → ℕ
  levels_of None' = 0
  levels_of (Some' x) = levels x
