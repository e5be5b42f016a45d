-- Atoms that are named, and what mutable structures, functions and futures stand for by theirs.
use Rattle.std.specs.Prelude.{◌≡◌, ◌↔◌, ◌<◌, ℕ, Bool, List, Option, Some, None, IsSomeAnd, IsTrue, length, option_and_then, option_map, slice_get, if◌then◌else◌}
use Rattle.bal_base.specs.declared.shape.Shape.{Shape}
use Rattle.bal_base.specs.Valid.{IsValid}
use Rattle.type_model.specs.declared.basic.SemType.{SemType, Atom}
use Rattle.type_model.specs.declared.atoms.AtomDef.{AtomDef}
use Rattle.type_model.specs.Inclusion.{Sub}
use Rattle.type_model.specs.Membership.{In}
use Rattle.value_model.specs.Heap.{Heap, Structure}
use Rattle.value_model.specs.Stands.{IsUnmarked, OwnTypes}
use Rattle.plain_tests.specs.Tells.{IsOfMutable, IsUndecidedQuestion}

-- the definition of an atom that is named
abbrev pub def_of : OwnTypes → Option ℕ → Option AtomDef
def_of own atom = option_and_then (λ a. slice_get own.atoms a) atom

-- the inherent atom of a structure that is mutable, which it may lack
abbrev pub mutable_in : Structure → Option (Option ℕ)
mutable_in s = if s.mutable then Some s.atom else None

abbrev pub mutable_at : Heap → ℕ → Option (Option ℕ)
mutable_at h n = option_and_then mutable_in (slice_get h.structures n)

abbrev pub arrow_of : OwnTypes → ℕ → Option ℕ
arrow_of own unit = option_map (λ u. u.0) (slice_get own.units unit)

abbrev pub future_of : OwnTypes → ℕ → Option ℕ
future_of own unit = option_map (λ u. u.1) (slice_get own.units unit)

abbrev pub arrow_at : OwnTypes → Heap → ℕ → Option ℕ
arrow_at own h n = option_and_then (λ f. arrow_of own f.unit) (slice_get h.functions n)

module _ (atoms : List AtomDef) where
  -- whether all shapes of the first type are in the second, or that this is not told
  abbrev pub TellsSub : SemType → SemType → Option Bool → Type 0
  TellsSub s t (Some below) = IsTrue below ↔ Sub atoms s t
  TellsSub s t None = IsUndecidedQuestion atoms s t

  -- whether all shapes of which this holds are in the type, or that this is not told of such types
  abbrev pub TellsAll : (Shape → Type 0) → (SemType → Type 0) → SemType → Option Bool → Type 0
  TellsAll P Asked t (Some holds) = IsTrue holds ↔ ((x : Shape) → IsValid x → P x → In atoms x t)
  TellsAll P Asked t None = (s : SemType) × Asked s × IsUndecidedQuestion atoms s t

  -- of a mutable structure of the atom
  abbrev pub TellsMutable : ℕ → SemType → Option Bool → Type 0
  TellsMutable a = TellsAll (λ x. IsUnmarked x × In atoms x (Atom a)) (λ s. IsSomeAnd (slice_get atoms a) (λ d. IsOfMutable a d s))

  -- of a mutable structure of the atom, if it has one
  abbrev pub TellsMutableIf : Option ℕ → SemType → Option Bool → Type 0
  TellsMutableIf atom =
      TellsAll (λ x. IsUnmarked x × IsSomeAnd atom (λ a. In atoms x (Atom a))) (λ s. IsSomeAnd atom (λ a. IsSomeAnd (slice_get atoms a) (λ d. IsOfMutable a d s)))

  -- of a value that stands for each shape of the atom
  abbrev pub TellsAtom : ℕ → SemType → Option Bool → Type 0
  TellsAtom a = TellsAll (λ x. In atoms x (Atom a)) (λ s. (a < length atoms) × (s ≡ Atom a))

  abbrev pub TellsAtomIf : Option ℕ → SemType → Option Bool → Type 0
  TellsAtomIf atom = TellsAll (λ x. IsSomeAnd atom (λ a. In atoms x (Atom a))) (λ s. IsSomeAnd atom (λ a. (a < length atoms) × (s ≡ Atom a)))
