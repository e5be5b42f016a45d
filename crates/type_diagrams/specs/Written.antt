-- Types that are written from sets of simple shapes.
use Rattle.std.specs.Prelude.{◌≡◌, ℕ, ℤ, List, Bool, false, ◌&&◌, ◌||◌, not}
use Rattle.std.specs.List.{list_any}
use Rattle.bal_base.specs.declared.shape.Shape.{Shape}
use Rattle.bal_base.specs.Valid.{IsValid}
use Rattle.type_model.specs.declared.basic.BasicSet.{BasicSet}
use Rattle.type_model.specs.declared.basic.BasicSet.TheVariants.{Never}
use Rattle.type_model.specs.declared.basic.SemType.{SemType}
use Rattle.type_model.specs.Defined.{NamesBelow}
use Rattle.type_diagrams.specs.declared.kind.Kind.{Kind}
use Rattle.type_diagrams.specs.Simple.{by_simple}
use Rattle.type_diagrams.specs.Conditions.{Condition, truth, has_simple, has_kind}

-- the simple shapes of a condition, and no shape of a kind
abbrev pub simple_alone : Condition → Condition
simple_alone c = record { simple = c.simple; by_kind = λ k v. false }

-- a type that names no atom, with these simple shapes and with no shape of a kind
pub record IsSimpleType (has : Shape → Bool) (t : SemType) : Type 0 where
  pub names : NamesBelow 0 t
  pub simple : (x : Shape) → IsValid x → truth (has_simple x) (λ a. false) t ≡ has x
  pub kinds : (k : Kind) (mark : Bool) (atom : ℕ → Bool) → truth (has_kind k mark) atom t ≡ false

-- sets that together have these simple shapes and no shape of a kind
pub record HaveTogether (has : Shape → Bool) (sets : List BasicSet) : Type 0 where
  pub simple : (x : Shape) → IsValid x → list_any (has_simple x) sets ≡ has x
  pub kinds : (k : Kind) (mark : Bool) → list_any (has_kind k mark) sets ≡ false

-- a type that names no atom and holds where one of the sets does
pub record IsUnionOfSets (sets : List BasicSet) (t : SemType) : Type 0 where
  pub names : NamesBelow 0 t
  pub holds : (basic : BasicSet → Bool) (atom : ℕ → Bool) → basic Never ≡ false → truth basic atom t ≡ list_any basic sets

-- the same of what is in one of these sets and in none of the others
pub record IsUnionWithout (sets left_out : List BasicSet) (t : SemType) : Type 0 where
  pub names : NamesBelow 0 t
  pub holds : (basic : BasicSet → Bool) (atom : ℕ → Bool) → basic Never ≡ false → truth basic atom t ≡ (list_any basic sets && not (list_any basic left_out))

-- further sets have these ints and nothing else
abbrev pub AddsInts : (ℤ → Bool) → List BasicSet → List BasicSet → Type 0
AddsInts ints old new =
    (has : Shape → Bool) → HaveTogether has old → HaveTogether (λ x. has x || by_simple false (λ b. false) ints (λ t. false) x) new
