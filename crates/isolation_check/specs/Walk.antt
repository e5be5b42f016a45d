-- Which fault of isolation comes first: calls are followed in depth first, in the order of the text, and no function is entered twice.
use Rattle.std.specs.List.{flat_map}
use Rattle.std.specs.Prelude.{◌≡◌, ◌++◌, ℕ, Bool, true, false, List, [], ◌∷◌, Option, Some, None, map, replicate, length, set, slice_get}
use Rattle.std.specs.Option.{option_to_list}
use Rattle.bal_base.specs.declared.fault.Fault.{Fault}
use Rattle.bal_base.specs.declared.fault.FaultCode.TheVariants.{NotIsolated}
use Rattle.bal_base.specs.declared.fault.Kept.TheVariants.{Names as ShowsNames}
use Rattle.bal_base.specs.declared.place.Place.{Place}
use Rattle.bal_base.specs.declared.text.Name.{Name}
use Rattle.type_model.specs.declared.answers.TypeLimit.{TypeLimit}
use Rattle.type_model.specs.declared.atoms.AtomDef.{AtomDef}
use Rattle.type_model.specs.declared.basic.BasicSet.TheVariants.{Readonly}
use Rattle.type_model.specs.declared.basic.SemType.{SemType, Atom, Basic}
use Rattle.type_model.specs.Calls.{Asked}
use Rattle.typed_tree.specs.declared.package.ModuleVariable.{ModuleVariable}
use Rattle.typed_tree.specs.declared.package.TypedPackage.{TypedPackage}
use Rattle.typed_tree.specs.declared.unit.Captured.{Captured}
use Rattle.typed_tree.specs.declared.unit.TypedFunction.{TypedFunction}
use Rattle.typed_tree.specs.SharedTypes.{sem_of}
use Rattle.checks.specs.Checks.{Check, Gives, Outcome, Refuses, either, gives, refuses, ◌▷◌}
use Rattle.checks.specs.Questions.{IsFault, is_below}
use Rattle.descriptors.specs.declared.names.OwnTypes.{OwnTypes}
use Rattle.isolation_check.specs.Isolated.{own_parts, promises}
use Rattle.isolation_check.specs.Parts.{Calls, CallsValue, Captures, Does, Part, Reads, Stores, function_parts}

-- A body that is open: the name of its function, if it is one's, and the parts of it that are left.
pub record Open : Type 0 where
  pub name : Option Name
  pub left : List Part

-- the names of the open functions, the first one first; the innermost body stands last
abbrev pub path : List Open → List Name
path opens = flat_map (λ o. option_to_list o.name) opens

-- where a call leads that is new
abbrev pub new_at : ℕ → Option Bool → Option ℕ
new_at u (Some false) = Some u
new_at u (Some true) = None
new_at u None = None

abbrev pub leads : List Bool → Does → Option ℕ
leads entered (Calls u) = new_at u (slice_get entered u)
leads entered (Reads m) = None
leads entered Stores = None
leads entered (CallsValue t) = None
leads entered (Captures cs) = None

abbrev pub body : Option Name → List Part → Open
body name left = record { name = name; left = left }

-- `NotIsolated` at the place, with the names of the functions whose calls lead there
abbrev pub not_isolated : List Name → Place → Check (List AtomDef) (Unit {0})
not_isolated names at = refuses (λ env f. IsFault NotIsolated (Some at) (ShowsNames names) f)

module _ (passes : List AtomDef → Asked → TypeLimit → Type 0) where
  abbrev pub has_to_be : SemType → SemType → List Name → Place → Check (List AtomDef) (Unit {0})
  has_to_be s t names at = is_below passes s t (Some at) ▷ λ yes. either yes (gives tt) (not_isolated names at)

  abbrev pub are_readonly : List Captured → List Name → Place → Check (List AtomDef) (Unit {0})
  are_readonly [] names at = gives tt
  are_readonly (c ∷ cs) names at = has_to_be (sem_of c.ty) (Basic Readonly) names at ▷ λ _. are_readonly cs names at

  abbrev pub is_steady : Option ModuleVariable → List Name → Place → Check (List AtomDef) (Unit {0})
  is_steady (Some v) names at = either v.is_final (has_to_be (sem_of v.ty) (Basic Readonly) names at) (not_isolated names at)
  is_steady None names at = refuses (λ env f. ⊥)

module _ (passes : List AtomDef → Asked → TypeLimit → Type 0) (own : OwnTypes) (p : TypedPackage) where
  abbrev pub keeps : Does → List Name → Place → Check (List AtomDef) (Unit {0})
  keeps (Reads m) names at = is_steady passes (slice_get p.variables.items m) names at
  keeps Stores names at = not_isolated names at
  keeps (Calls u) names at = gives tt
  keeps (CallsValue t) names at = has_to_be passes (sem_of t) (Atom own.isolated) names at
  keeps (Captures cs) names at = are_readonly passes cs names at

  -- What comes of the bodies that are open, the innermost one last, where some functions were entered before.
  pub data Walks (env : List AtomDef) : List Open → List Bool → Outcome (Unit {0}) → Type 0 where
    ends : (entered : List Bool) → Walks env [] entered (Gives tt)
    leaves : (around : List Open) (name : Option Name) (entered : List Bool) (o : Outcome (Unit {0}))
        → Walks env around entered o → Walks env (around ++ body name [] ∷ []) entered o
    refuses_here : (around : List Open) (name : Option Name) (part : Part) (parts : List Part) (entered : List Bool) (f : Fault)
        → keeps part.does (path (around ++ body name (part ∷ parts) ∷ [])) part.at env (Refuses f) env
        → Walks env (around ++ body name (part ∷ parts) ∷ []) entered (Refuses f)
    goes_on : (around : List Open) (name : Option Name) (part : Part) (parts : List Part) (entered : List Bool) (o : Outcome (Unit {0}))
        → keeps part.does (path (around ++ body name (part ∷ parts) ∷ [])) part.at env (Gives tt) env
        → leads entered part.does ≡ None
        → Walks env (around ++ body name parts ∷ []) entered o → Walks env (around ++ body name (part ∷ parts) ∷ []) entered o
    enters : (around : List Open) (name : Option Name) (part : Part) (parts : List Part) (entered : List Bool) (o : Outcome (Unit {0})) (u : ℕ) (f : TypedFunction)
        → leads entered part.does ≡ Some u → slice_get p.functions.items u ≡ Some f
        → Walks env ((around ++ body name parts ∷ []) ++ body (Some f.name) (own_parts (function_parts f)) ∷ []) (set entered u true) o
        → Walks env (around ++ body name (part ∷ parts) ∷ []) entered o

  -- the walk from all promises, where nothing was entered; the atoms stay
  unfoldable pub isolated : Check (List AtomDef) (Unit {0})
  isolated old o new = Walks old (record { name = None; left = promises p } ∷ []) (replicate (length p.functions.items) false) o × (new ≡ old)
