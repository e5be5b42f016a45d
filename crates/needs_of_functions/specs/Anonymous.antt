-- Parts of the needs of anonymous functions, which functions of their own meet.
use Rattle.std.specs.Prelude.{◌≡◌, ◌+◌, ℕ, Bool, List, [], ◌∷◌, Option, Some}
use Rattle.bal_base.specs.declared.place.Place.{Place}
use Rattle.descriptors.specs.Described.{plain}
use Rattle.type_model.specs.declared.atoms.AtomDef.{AtomDef}
use Rattle.type_model.specs.declared.atoms.AtomDef.TheVariants.{List as ListAtom, Arrow, Future as FutureAtom}
use Rattle.type_model.specs.declared.basic.SemType.{SemType, Atom}
use Rattle.type_model.specs.declared.basic.Ty.{Ty}
use Rattle.type_model.specs.SameType.{IsSameType}
use Rattle.typed_tree.specs.declared.expr.AnonymousFunction.{AnonymousFunction}
use Rattle.typed_tree.specs.declared.expr.TypedExpr.{TypedExpr}
use Rattle.typed_tree.specs.SharedTypes.{Shared, sem_of}
use Rattle.typed_tree.specs.Views.{IsFunctionOf}
use Rattle.check_words.specs.Calls.{AreCopiesOf, IsRestOf, fixed_types, typed_unit}
use Rattle.check_words.specs.Sharing.{SameShared}
use Rattle.check_words.specs.State.{IsLast, UnitAtWork}
use Rattle.check_words.specs.Words.{Step, makes}

-- the type that is wanted, by another handle, and the one that is wanted last
abbrev pub IsWantedAs : Option Shared → Shared → Type 0
IsWantedAs want u = (t : Shared) × (want ≡ Some t) × SameShared t u

abbrev pub IsLastWanted : List (Option Shared) → Shared → Type 0
IsLastWanted wants u = (t : Shared) × IsLast wants (Some t) × SameShared t u

-- the lists of its arguments
abbrev pub AreArgumentsOf : UnitAtWork → AtomDef → Type 0
AreArgumentsOf u def = (fixed : List Ty) × (rest : Option Ty) × AreCopiesOf (fixed_types u) fixed × IsRestOf u.rest_member rest × (def ≡ ListAtom fixed rest)

-- the definitions of its own atoms, where the first one has this number
abbrev pub AreAtomsAt : Bool → UnitAtWork → ℕ → List AtomDef → Type 0
AreAtomsAt isolated u first defs =
    (fixed : List Ty) × (rest : Option Ty) × (r s : SemType) × AreCopiesOf (fixed_types u) fixed × IsRestOf u.rest_member rest
    × IsSameType (sem_of u.result) r × IsSameType (sem_of u.result) s
    × (defs ≡ ListAtom fixed rest ∷ Arrow (Atom first) r isolated ∷ FutureAtom s ∷ [])

-- a unit that is done, with its own atoms from this one on, as a function
abbrev pub function_of : Bool → UnitAtWork → ℕ → AnonymousFunction
function_of isolated u first =
    record { isolated = isolated; unit = typed_unit u (first + 1) (first + 2); args = first; captured = u.captured }

-- the last part is its value
abbrev pub makes_function : Bool → UnitAtWork → ℕ → Place → Step
makes_function isolated u first at =
    makes 1 (λ env parts e. (value : TypedExpr) × (parts ≡ value ∷ []) × (t : Shared) × (t.value ≡ plain (Atom (first + 1)))
    × IsFunctionOf (function_of isolated u first) value t at e)
