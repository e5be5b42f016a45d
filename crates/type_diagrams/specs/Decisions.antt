-- What single decisions in a table of nodes come to.
use Rattle.std.specs.Prelude.{◌≡◌, ◌+◌, ◌<◌, ◌≤◌, ◌++◌, ◌-◌, ◌⊎◌, ℕ, List, length, Bool, if◌then◌else◌, nat_lt, Option, Some, None, slice_get}
use Rattle.type_diagrams.specs.declared.node.Node.{Node}
use Rattle.type_diagrams.specs.Kinds.{the_mark}
use Rattle.type_diagrams.specs.Trees.{eval, rank, RisesFrom}
use Rattle.type_diagrams.specs.Tables.{tree_of, DependBelow}

-- a list keeps all that another has, in its place
abbrev pub Grows : {X : Type 0} → List X → List X → Type 0
Grows {X} old new = (more : List X) × (new ≡ old ++ more)

-- new nodes decide by the mark, by one of the first so many atoms, or by an atom of an old node
abbrev pub AddBelow : ℕ → List Node → List Node → Type 0
AddBelow least old new = (n : ℕ) → least ≤ n → DependBelow n old → DependBelow n new

-- 0, 1, or the number of a node
abbrev pub IsNumber : List Node → ℕ → Type 0
IsNumber nodes n = n < length nodes + 2

-- what a number comes to
abbrev pub value_of : List Node → ℕ → (ℕ → Bool) → Bool
value_of nodes n v = eval (tree_of nodes n) v

-- the literals of the number's decision are at this place of the order or behind it
abbrev pub StartsFrom : List Node → ℕ → ℕ → Type 0
StartsFrom nodes place n = RisesFrom place (tree_of nodes n)

-- what a new node needs
pub record CanFollow (nodes : List Node) (m : Node) : Type 0 where
  pub literal : m.on ≤ the_mark
  pub yes : IsNumber nodes m.yes
  pub no : IsNumber nodes m.no
  pub yes_after : StartsFrom nodes (rank m.on + 1) m.yes
  pub no_after : StartsFrom nodes (rank m.on + 1) m.no

-- a number that decides as the node does, in a table that has grown
pub record IsNodeFor (old new : List Node) (m : Node) (n : ℕ) : Type 0 where
  pub number : IsNumber new n
  pub value : (v : ℕ → Bool) → value_of new n v ≡ (if v m.on then value_of old m.yes v else value_of old m.no v)
  pub starts : StartsFrom new (rank m.on) n

-- the node with the number, unless it is 0 or 1
abbrev pub node_at : List Node → ℕ → Option Node
node_at nodes n = if nat_lt n 2 then None else slice_get nodes (n - 2)

-- the number is that of a node that decides by the literal
abbrev pub Begins : List Node → ℕ → ℕ → Type 0
Begins nodes l n = (m : Node) × (node_at nodes n ≡ Some m) × (m.on ≡ l)

-- what follows a decision where the literal holds, and where it doesn't; where the decision begins by the
-- literal, both are earlier
pub record IsSplit (nodes : List Node) (l n yes no : ℕ) : Type 0 where
  pub yes_number : IsNumber nodes yes
  pub no_number : IsNumber nodes no
  pub value : (v : ℕ → Bool) → value_of nodes n v ≡ (if v l then value_of nodes yes v else value_of nodes no v)
  pub yes_starts : StartsFrom nodes (rank l + 1) yes
  pub no_starts : StartsFrom nodes (rank l + 1) no
  pub yes_within : yes ≤ n
  pub no_within : no ≤ n
  pub shrinks : Begins nodes l n → (yes < n) × (no < n)

-- the literal that comes first in two decisions
pub record IsFirstLiteral (nodes : List Node) (left right l : ℕ) : Type 0 where
  pub literal : l ≤ the_mark
  pub left_starts : StartsFrom nodes (rank l) left
  pub right_starts : StartsFrom nodes (rank l) right
  pub begins : Begins nodes l left ⊎ Begins nodes l right
  pub last : (place : ℕ) → StartsFrom nodes place left → StartsFrom nodes place right → place ≤ rank l
