-- As which type the values are asked about that are made with an atom.
use Rattle.std.specs.Prelude.{◌≡◌, ℕ, List, Contains, IsSomeAnd, slice_get}
use Rattle.type_model.specs.declared.atoms.AtomDef.{AtomDef}
use Rattle.type_model.specs.declared.atoms.AtomDef.TheVariants.{List as ListAtom, Mapping as MappingAtom, Arrow, Error as ErrorAtom, Future as FutureAtom}
use Rattle.type_model.specs.declared.basic.BasicSet.TheVariants.{Readonly}
use Rattle.type_model.specs.declared.basic.SemType.{SemType, Atom}
use Rattle.type_model.specs.Calls.{Asked, Without}
use Rattle.code_verifier.specs.KindSets.{IsAllBut, IsBoth}

-- lists and mappings that may change; all shapes of other atoms
abbrev pub IsOfValues : ℕ → AtomDef → SemType → Type 0
IsOfValues a (ListAtom fixed rest) t = IsBoth (λ s. s ≡ Atom a) (IsAllBut Readonly) t
IsOfValues a (MappingAtom fields rest) t = IsBoth (λ s. s ≡ Atom a) (IsAllBut Readonly) t
IsOfValues a (Arrow args outcome alone) t = t ≡ Atom a
IsOfValues a (ErrorAtom detail) t = t ≡ Atom a
IsOfValues a (FutureAtom outcome) t = t ≡ Atom a

-- the same of the atom with this number
abbrev pub IsValueType : List AtomDef → ℕ → SemType → Type 0
IsValueType env a t = IsSomeAnd (slice_get env a) (λ d. IsOfValues a d t)

-- whether the type is below a tested one
abbrev pub AsksTested : SemType → List SemType → Asked → Type 0
AsksTested s tested asked = (t : SemType) × Contains tested t × (asked ≡ Without s t)

-- whether values of the atom are in a tested type
abbrev pub AsksOfAtom : List AtomDef → List SemType → ℕ → Asked → Type 0
AsksOfAtom env tested a asked = (s : SemType) × IsValueType env a s × AsksTested s tested asked

-- whether values of one of the atoms are
abbrev pub AsksOfAtoms : List AtomDef → List SemType → List ℕ → Asked → Type 0
AsksOfAtoms env tested inherent asked = (a : ℕ) × Contains inherent a × AsksOfAtom env tested a asked
