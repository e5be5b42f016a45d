-- With which atoms a program makes its structures, functions and futures: those that it names, and those with which gaps of its
-- lists are filled.
use Rattle.std.specs.Prelude.{◌≡◌, ◌++◌, ℕ, List, [], ◌∷◌, Some, Contains, map, option_to_list, slice_get, ⊤}
use Rattle.type_model.specs.declared.basic.Ty.{Ty}
use Rattle.type_model.specs.declared.basic.Choice.{Choice}
use Rattle.type_model.specs.declared.atoms.AtomDef.{AtomDef}
use Rattle.type_model.specs.declared.atoms.AtomDef.TheVariants.{List as ListAtom, Mapping as MappingAtom, Arrow, Error as ErrorAtom, Future as FutureAtom}

abbrev pub member_types : AtomDef → List Ty
member_types (ListAtom fixed rest) = fixed ++ option_to_list rest
member_types (MappingAtom fields rest) = map (λ f. f.ty) fields ++ option_to_list rest
member_types (Arrow args outcome alone) = []
member_types (ErrorAtom detail) = []
member_types (FutureAtom outcome) = []

abbrev pub IsListDefinition : AtomDef → Type 0
IsListDefinition (ListAtom fixed rest) = ⊤
IsListDefinition (MappingAtom fields rest) = ⊥
IsListDefinition (Arrow args outcome alone) = ⊥
IsListDefinition (ErrorAtom detail) = ⊥
IsListDefinition (FutureAtom outcome) = ⊥

-- the one atom of which a constructor may make a value of the type
abbrev pub IsOneChoice : Ty → ℕ → Type 0
IsOneChoice t atom = (c : Choice) × (t.lists ++ t.maps ≡ c ∷ []) × (c.atom ≡ atom)

-- a gap in a list of the first atom may be filled with a structure of the second one
abbrev pub MayFill : List AtomDef → ℕ → ℕ → Type 0
MayFill atoms a b =
    (d : AtomDef) × (t : Ty) × (slice_get atoms a ≡ Some d) × IsListDefinition d × Contains (member_types d) t × IsOneChoice t b

-- those that are named, and what fills gaps of lists of them
pub data IsInherent (atoms : List AtomDef) (Named : ℕ → Type 0) : ℕ → Type 0 where
  named : (a : ℕ) → Named a → IsInherent atoms Named a
  fills : (a b : ℕ) → IsInherent atoms Named a → MayFill atoms a b → IsInherent atoms Named b
