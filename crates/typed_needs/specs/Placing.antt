-- The unit at hand, as the place where operations stand, and what names stand for there.
use Rattle.std.specs.Prelude.{◌≡◌, ◌++◌, ℕ, Bool, List, [], ◌∷◌, All, IsSomeAnd, Ok, Some, None, Option, map, slice_get, ⊤}
use Rattle.std.specs.List.{AllZip}
use Rattle.bal_tree.specs.declared.name.QualifiedName.{QualifiedName}
use Rattle.descriptors.specs.declared.names.Meaning.TheVariants as meaning
use Rattle.descriptors.specs.declared.names.Names.{Names}
use Rattle.descriptors.specs.declared.names.Scope.{Scope}
use Rattle.descriptors.specs.declared.names.Signature.{Signature}
use Rattle.descriptors.specs.Naming.{meaning_named}
use Rattle.operations.specs.Rows.{Signature as UnitSignature, Surroundings}
use Rattle.operations.specs.Structures.{IsListAtom}
use Rattle.type_model.specs.declared.atoms.AtomDef.{AtomDef}
use Rattle.type_model.specs.declared.basic.SemType.{SemType, Atom}
use Rattle.type_model.specs.declared.basic.Ty.{Ty}
use Rattle.type_model.specs.Inclusion.{Sub}
use Rattle.typed_tree.specs.SharedTypes.{sem_of}
use Rattle.flow_narrowing.specs.declared.flow.Variable.{Variable}
use Rattle.check_words.specs.State.{IsLast, State, UnitAtWork}

-- ---- the unit at hand

-- of the slots of the place those that the unit has by now are the first ones
pub record IsPlaced (place : Surroundings) (s : State) : Type 0 where
  pub unit : UnitAtWork
  pub at_hand : IsLast s.units unit
  -- slots that come later
  pub later : List SemType
  pub slots : place.slots ≡ map sem_of unit.slots ++ later
  pub result : place.result ≡ sem_of unit.result

-- the variable's slot is of its declared type
abbrev pub IsStored : Surroundings → Variable → Type 0
IsStored place v = slice_get place.slots v.slot ≡ Some (sem_of v.declared)

-- and so it is of all variables that are seen in the unit at hand
pub record AreStored (place : Surroundings) (s : State) : Type 0 where
  pub unit : UnitAtWork
  pub at_hand : IsLast s.units unit
  pub variables : All (IsStored place) unit.flow.variables

-- ---- what names stand for

module _ (env : List AtomDef) where
  -- the types of the slots of a function's parameters, what takes the rest being a list
  abbrev pub parameter_types : Signature → List SemType
  parameter_types f = map (λ t. t.sem) f.params ++ rest f.rest
    where
      rest : Option Ty → List SemType
      rest None = []
      rest (Some t) = Atom f.lists ∷ []

  -- the lists of what takes the rest are those of an atom without fixed places, whose members may be what the rest may be
  abbrev pub AreRestLists : Option Ty → ℕ → Type 0
  AreRestLists None atom = ⊤
  AreRestLists (Some t) atom = IsListAtom env atom (λ fixed rest. (fixed ≡ []) × IsSomeAnd rest (λ u. Sub env t.sem u.sem))

  -- the unit takes what the function's parameters may be, and gives what its result may be
  pub record IsUnitOf (f : Signature) (u : UnitSignature) : Type 0 where
    pub params : AllZip (Sub env) (parameter_types f) u.params
    pub captured : u.captured ≡ []
    pub result : Sub env u.result f.result.sem
    pub arrow : u.arrow ≡ f.arrow
    pub future : u.future ≡ f.future
    pub lists : AreRestLists f.rest f.lists

  -- each variable and function of the package stands at the place by its number
  pub record AreNamed (names : Names) (place : Surroundings) : Type 0 where
    pub variables : (scope : Scope) (q : QualifiedName) (number : ℕ) (final : Bool) (t : Ty)
        → meaning_named names scope q ≡ Ok (meaning.Variable number final t) → IsSomeAnd (slice_get place.variables number) (λ s. Sub env s t.sem)
    pub functions : (scope : Scope) (q : QualifiedName) (f : Signature) → meaning_named names scope q ≡ Ok (meaning.Function f)
        → IsSomeAnd (slice_get place.units f.unit) (IsUnitOf f)
