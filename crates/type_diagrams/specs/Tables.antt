-- Diagrams as they are kept: shared nodes, shared sets of simple shapes, and the diagrams over them.
use Rattle.std.specs.Prelude.{◌≡◌, ◌≢◌, ◌+◌, ◌<◌, ◌≤◌, ◌++◌, ℕ, zero, suc, List, [], ◌∷◌, length, fold, Bool, true, false, Option, Some, None, slice_get, unwrap_or}
use Rattle.bal_base.specs.declared.shape.Shape.{Shape}
use Rattle.type_diagrams.specs.declared.kind.Kind.{Kind}
use Rattle.type_diagrams.specs.declared.kind.Kind.TheVariants.{List as Lists, Mapping as Mappings, Error as Errors, Function as Functions, Future as Futures}
use Rattle.type_diagrams.specs.declared.node.Node.{Node}
use Rattle.type_diagrams.specs.declared.node.Diagram.{Diagram}
use Rattle.type_diagrams.specs.declared.node.TheConstants.{MOST_NODES}
use Rattle.type_diagrams.specs.Kinds.{the_mark}
use Rattle.type_diagrams.specs.Trees.{Tree, No, Yes, By, eval, rank}
use Rattle.type_diagrams.specs.Sets.{Simples, has_shape}
use Rattle.type_diagrams.specs.Conditions.{Condition, nothing}

pub record Table : Type 0 where
  pub nodes : List Node
  pub sets : List Simples
  pub diagrams : List Diagram

-- ---- what a number of a node stands for

-- the tree of a number, given the trees of the nodes: 0 is false, 1 is true, k + 2 the node at place k
abbrev pub tree_at : List Tree → ℕ → Tree
tree_at trees zero = No
tree_at trees (suc zero) = Yes
tree_at trees (suc (suc k)) = unwrap_or (slice_get trees k) No

-- one more node, whose followers stand before it
abbrev pub with_node : List Tree → Node → List Tree
with_node trees m = trees ++ By m.on (tree_at trees m.yes) (tree_at trees m.no) ∷ []

abbrev pub trees_of : List Node → List Tree
trees_of nodes = fold with_node [] nodes

abbrev pub tree_of : List Node → ℕ → Tree
tree_of nodes n = tree_at (trees_of nodes) n

-- going from a number to `yes` where the mark or atom of its node holds and to `no` where it doesn't
-- ends in this answer
pub data Leads (nodes : List Node) (v : ℕ → Bool) : ℕ → Bool → Type 0 where
  at_false : Leads nodes v 0 false
  at_true : Leads nodes v 1 true
  to_yes : (k : ℕ) (m : Node) (b : Bool) → slice_get nodes k ≡ Some m → v m.on ≡ true → Leads nodes v m.yes b → Leads nodes v (k + 2) b
  to_no : (k : ℕ) (m : Node) (b : Bool) → slice_get nodes k ≡ Some m → v m.on ≡ false → Leads nodes v m.no b → Leads nodes v (k + 2) b

-- ---- what a number of a diagram stands for

abbrev pub root_of : Diagram → Kind → ℕ
root_of d Lists = d.list
root_of d Mappings = d.mapping
root_of d Errors = d.error
root_of d Functions = d.function
root_of d Futures = d.future

abbrev pub is_in_set : Option Simples → Shape → Bool
is_in_set (Some s) x = has_shape s x
is_in_set None x = false

abbrev pub condition_at : Table → Option Diagram → Condition
condition_at t (Some d) = record {
  simple = is_in_set (slice_get t.sets d.simple);
  by_kind = λ k v. eval (tree_of t.nodes (root_of d k)) v;
}
condition_at t None = nothing

-- the condition of the diagram with this number
abbrev pub condition : Table → ℕ → Condition
condition t a = condition_at t (slice_get t.diagrams a)

abbrev pub IsDiagram : Table → ℕ → Type 0
IsDiagram t a = a < length t.diagrams

-- ---- what holds of all tables

-- the follower, where it is a node, comes later in the order of decisions than a literal
abbrev pub ComesAfter : List Node → ℕ → ℕ → Type 0
ComesAfter nodes l n = (k : ℕ) (f : Node) → n ≡ k + 2 → slice_get nodes k ≡ Some f → rank l < rank f.on

-- what holds of the node at place k
pub record IsNodeAt (nodes : List Node) (k : ℕ) (m : Node) : Type 0 where
  pub literal : m.on ≤ the_mark
  pub differ : m.yes ≢ m.no
  pub yes_earlier : m.yes < k + 2
  pub no_earlier : m.no < k + 2
  pub yes_after : ComesAfter nodes m.on m.yes
  pub no_after : ComesAfter nodes m.on m.no

-- no two places have the same
abbrev pub HasNoTwins : {X : Type 0} → List X → Type 0
HasNoTwins {X} xs = (i j : ℕ) (x : X) → slice_get xs i ≡ Some x → slice_get xs j ≡ Some x → i ≡ j

pub record AreNodes (nodes : List Node) : Type 0 where
  pub few : length nodes ≤ MOST_NODES
  pub each : (k : ℕ) (m : Node) → slice_get nodes k ≡ Some m → IsNodeAt nodes k m
  pub no_twins : HasNoTwins nodes

-- the literal is the mark, or one of the first n atoms
abbrev pub IsBelow : ℕ → ℕ → Type 0
IsBelow n l = l ≢ the_mark → l < n

-- every atom on which a node decides is one of the first n
abbrev pub DependBelow : ℕ → List Node → Type 0
DependBelow n nodes = (k : ℕ) (m : Node) → slice_get nodes k ≡ Some m → IsBelow n m.on
