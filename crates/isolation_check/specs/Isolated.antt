-- When a package keeps its promises of isolation: each body that is declared isolated keeps them, and so does each body that such a one
-- reaches by calls by name ("Isolated functions").
use Rattle.std.specs.Prelude.{◌≡◌, ◌++◌, ℕ, Bool, true, false, List, [], ◌∷◌, Some, ⊤, All, Contains, slice_get, if◌then◌else◌}
use Rattle.std.specs.List.{flat_map}
use Rattle.type_model.specs.declared.atoms.AtomDef.{AtomDef}
use Rattle.type_model.specs.declared.basic.BasicSet.TheVariants.{Readonly}
use Rattle.type_model.specs.declared.basic.SemType.{SemType, Atom, Basic}
use Rattle.type_model.specs.Inclusion.{Sub}
use Rattle.typed_tree.specs.declared.package.Initialiser.{Initialiser}
use Rattle.typed_tree.specs.declared.package.ModuleVariable.{ModuleVariable}
use Rattle.typed_tree.specs.declared.package.TypedPackage.{TypedPackage}
use Rattle.typed_tree.specs.declared.unit.Captured.{Captured}
use Rattle.typed_tree.specs.declared.unit.TypedFunction.{TypedFunction}
use Rattle.typed_tree.specs.Listed.{Listed, nothing, one, ◌&◌}
use Rattle.typed_tree.specs.SharedTypes.{sem_of}
use Rattle.descriptors.specs.declared.names.OwnTypes.{OwnTypes}
use Rattle.isolation_check.specs.Parts.{Calls, CallsValue, Captures, Does, Noted, Part, Reads, Stores, function_parts, initialiser_parts}

-- of what is noted of a body, what is its own
abbrev pub own_parts : Listed Noted → List Part
own_parts nothing = []
own_parts (one n) = if n.anonymous then [] else n.part ∷ []
own_parts (p & q) = own_parts p ++ own_parts q

-- and what is of the isolated anonymous functions in it
abbrev pub parts_inside : Listed Noted → List Part
parts_inside nothing = []
parts_inside (one n) = if n.anonymous then n.part ∷ [] else []
parts_inside (p & q) = parts_inside p ++ parts_inside q

-- ---- what stands under a promise by itself

abbrev pub promised_call : Bool → TypedFunction → List Part
promised_call true f = record { does = Calls f.unit.number; at = f.at } ∷ []
promised_call false f = []

-- a function that is declared isolated, as a call of it, and then the isolated anonymous functions in it
abbrev pub function_promises : TypedFunction → List Part
function_promises f = promised_call f.isolated f ++ parts_inside (function_parts f)

abbrev pub initialiser_promises : Initialiser → List Part
initialiser_promises i = parts_inside (initialiser_parts i)

-- the functions in text order, and then the initial values
abbrev pub promises : TypedPackage → List Part
promises p = flat_map function_promises p.functions.items ++ flat_map initialiser_promises p.initialisers.items

module _ (p : TypedPackage) where
  -- the functions that are declared isolated, those that isolated anonymous functions call, and all that these lead to
  pub data IsReached : ℕ → Type 0 where
    promised : (part : Part) (u : ℕ) → Contains (promises p) part → part.does ≡ Calls u → IsReached u
    called : (g : ℕ) (f : TypedFunction) (part : Part) (u : ℕ) → IsReached g → slice_get p.functions.items g ≡ Some f
        → Contains (own_parts (function_parts f)) part → part.does ≡ Calls u → IsReached u

  module _ (own : OwnTypes) (env : List AtomDef) where
    abbrev pub IsReadonly : SemType → Type 0
    IsReadonly t = Sub env t (Basic Readonly)

    -- a constant variable of a type below `readonly`
    abbrev pub IsSteady : ModuleVariable → Type 0
    IsSteady v = (v.is_final ≡ true) × IsReadonly (sem_of v.ty)

    abbrev pub IsKeptBy : Does → Type 0
    IsKeptBy (Reads m) = (v : ModuleVariable) × (slice_get p.variables.items m ≡ Some v) × IsSteady v
    IsKeptBy Stores = ⊥
    IsKeptBy (Calls u) = ⊤
    IsKeptBy (CallsValue t) = Sub env (sem_of t) (Atom own.isolated)
    IsKeptBy (Captures cs) = All (λ c. IsReadonly (sem_of c.ty)) cs

    abbrev pub Keeps : Part → Type 0
    Keeps part = IsKeptBy part.does

    pub record IsIsolated : Type 0 where
      pub here : All Keeps (promises p)
      pub reached : (u : ℕ) (f : TypedFunction) → IsReached u → slice_get p.functions.items u ≡ Some f → All Keeps (own_parts (function_parts f))
