-- What holds of every table of diagrams, and what calls keep of it.
use Rattle.std.specs.Prelude.{◌≡◌, ◌<◌, ◌≤◌, ◌↔◌, ℕ, Bool, List, length, Some, slice_get}
use Rattle.bal_base.specs.declared.shape.Shape.{Shape}
use Rattle.bal_base.specs.Valid.{IsValid}
use Rattle.type_model.specs.declared.atoms.AtomDef.{AtomDef}
use Rattle.type_model.specs.declared.basic.BasicSet.{BasicSet}
use Rattle.type_diagrams.specs.declared.kind.Kind.{Kind}
use Rattle.type_diagrams.specs.declared.node.Diagram.{Diagram}
use Rattle.type_diagrams.specs.declared.node.TheConstants.{MOST_NODES}
use Rattle.type_diagrams.specs.declared.operation.Operation.{Operation}
use Rattle.type_diagrams.specs.Kinds.{IsSimple, the_mark}
use Rattle.type_diagrams.specs.Sets.{Simples, IsCanonical, has_shape}
use Rattle.type_diagrams.specs.Conditions.{Condition, AreOne, Meets, has_kind}
use Rattle.type_diagrams.specs.Operations.{meaning}
use Rattle.type_diagrams.specs.Tables.{Table, AreNodes, IsDiagram, HasNoTwins, root_of, condition, is_in_set}
use Rattle.type_diagrams.specs.Decisions.{Grows, AddBelow, IsNumber, value_of}

-- the parts of a diagram are there
pub record IsDiagramOver (t : Table) (d : Diagram) : Type 0 where
  pub set : d.simple < length t.sets
  pub roots : (k : Kind) → IsNumber t.nodes (root_of d k)

-- what holds of every table
pub record IsTable (t : Table) : Type 0 where
  pub nodes : AreNodes t.nodes
  pub canonical : (k : ℕ) (s : Simples) → slice_get t.sets k ≡ Some s → IsCanonical s
  pub sets_apart : HasNoTwins t.sets
  pub each : (k : ℕ) (d : Diagram) → slice_get t.diagrams k ≡ Some d → IsDiagramOver t d
  pub diagrams_apart : HasNoTwins t.diagrams
  pub few_sets : length t.sets ≤ MOST_NODES
  pub few_diagrams : length t.diagrams ≤ MOST_NODES

-- a table keeps all that another has, and may have more: each diagram has its condition still
pub record Keeps (old new : Table) : Type 0 where
  pub nodes : Grows old.nodes new.nodes
  pub sets : Grows old.sets new.sets
  pub diagrams : Grows old.diagrams new.diagrams
  pub conditions : (a : ℕ) → IsDiagram old a → condition new a ≡ condition old a

-- it keeps all, and its new nodes decide by the mark, by one of the first so many atoms, or by an atom of
-- an old node
pub record Extends (least : ℕ) (old new : Table) : Type 0 where
  pub keeps : Keeps old new
  pub atoms : AddBelow least old.nodes new.nodes

-- diagrams with equal conditions have one number
abbrev pub HasOneNumberEach : Table → Type 0
HasOneNumberEach t = (a b : ℕ) → IsDiagram t a → IsDiagram t b → AreOne (condition t a) (condition t b) → a ≡ b

-- what an operation makes of two conditions
abbrev pub combined : Operation → Condition → Condition → Condition
combined o c d = record {
  simple = λ x. meaning o (c.simple x) (d.simple x);
  by_kind = λ k v. meaning o (c.by_kind k v) (d.by_kind k v);
}

-- a diagram with this condition
pub record Gives (t : Table) (c : Condition) (a : ℕ) : Type 0 where
  pub diagram : IsDiagram t a
  pub condition : AreOne (condition t a) c

-- over these atoms, the valid shapes that meet the condition are exactly those of which P holds
abbrev pub IsMetWhere : List AtomDef → Condition → (Shape → Type 0) → Type 0
IsMetWhere env c P = (x : Shape) → IsValid x → Meets env c x ↔ P x

-- the parts of a diagram in a table: a set with these shapes, and decisions with these values
pub record HasParts (t : Table) (d : Diagram) (c : Condition) : Type 0 where
  pub set : Simples
  pub set_is : slice_get t.sets d.simple ≡ Some set
  pub simple : (x : Shape) → IsSimple x → IsValid x → has_shape set x ≡ c.simple x
  pub roots : (k : Kind) → IsNumber t.nodes (root_of d k)
  pub by_kind : (k : Kind) (v : ℕ → Bool) → value_of t.nodes (root_of d k) v ≡ c.by_kind k v

-- the number of a set that has the shapes which an operation makes of two
pub record IsSetMade (old : List Simples) (o : Operation) (left right : ℕ) (new : List Simples) (n : ℕ) : Type 0 where
  pub there : n < length new
  pub same : (x : Shape) → IsValid x → is_in_set (slice_get new n) x ≡ meaning o (is_in_set (slice_get old left) x) (is_in_set (slice_get old right) x)

-- the number of the decision by the literal alone
pub record IsLiteralIn (t : Table) (l : ℕ) (n : ℕ) : Type 0 where
  pub number : IsNumber t.nodes n
  pub value : (v : ℕ → Bool) → value_of t.nodes n v ≡ v l

-- a diagram with this set, and with the shapes of a basic set that are of a kind
pub record HasBasicRoots (t : Table) (simple : ℕ) (b : BasicSet) (d : Diagram) : Type 0 where
  pub set : d.simple ≡ simple
  pub roots : (k : Kind) → IsNumber t.nodes (root_of d k)
  pub by_kind : (k : Kind) (v : ℕ → Bool) → value_of t.nodes (root_of d k) v ≡ has_kind k (v the_mark) b
