-- What operations make of decisions.
use Rattle.std.specs.Prelude.{◌≡◌, ◌&&◌, ◌||◌, not, Bool, ℕ, List, Some}
use Rattle.std.specs.declared.hash.FoldHasher.{FoldHasher}
use Rattle.std.specs.declared.hash.BuildHasherDefault.{BuildHasherDefault}
use Rattle.std.specs.HashMap.{get, HashMap}
use Rattle.type_diagrams.specs.declared.node.Node.{Node}
use Rattle.type_diagrams.specs.declared.operation.Operation.{Operation}
use Rattle.type_diagrams.specs.declared.operation.Operation.TheVariants.{Or, And, Without}
use Rattle.type_diagrams.specs.declared.operation.Step.{Step}
use Rattle.type_diagrams.specs.contracts.operation.StepPartialEq.TheImpl as same_step
use Rattle.type_diagrams.specs.Tables.{AreNodes}
use Rattle.type_diagrams.specs.Decisions.{IsNumber, value_of, StartsFrom}

abbrev pub meaning : Operation → Bool → Bool → Bool
meaning Or a b = a || b
meaning And a b = a && b
meaning Without a b = a && not b

-- the numbers of the step are in the table
pub record CanStep (nodes : List Node) (s : Step) : Type 0 where
  pub left : IsNumber nodes s.left
  pub right : IsNumber nodes s.right

-- the result of a step, in a table that has grown: where both begin behind a place, so does the result
pub record IsResultOf (old : List Node) (s : Step) (new : List Node) (n : ℕ) : Type 0 where
  pub number : IsNumber new n
  pub value : (v : ℕ → Bool) → value_of new n v ≡ meaning s.operation (value_of old s.left v) (value_of old s.right v)
  pub starts : (place : ℕ) → StartsFrom old place s.left → StartsFrom old place s.right → StartsFrom new place n

-- the result of a step in every table that has its numbers
abbrev pub IsSettledBy : Step → ℕ → Type 0
IsSettledBy s n = (nodes : List Node) → CanStep nodes s → IsResultOf nodes s nodes n

-- what is remembered of steps are their results
abbrev pub Results : Type 0
Results = HashMap Step ℕ (BuildHasherDefault FoldHasher)

abbrev pub Remembers : List Node → Results → Type 0
Remembers nodes results =
    (s : Step) (n : ℕ) → get same_step.ghosts.eq results s ≡ Some n → CanStep nodes s × IsResultOf nodes s nodes n

-- nodes, with results that are theirs
pub record AreKept (nodes : List Node) (results : Results) : Type 0 where
  pub are : AreNodes nodes
  pub remembered : Remembers nodes results
