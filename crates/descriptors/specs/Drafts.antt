-- Atoms that are numbered before they are added, and types over them.
use Rattle.std.specs.Prelude.{◌≡◌, ◌+◌, ◌≤◌, ◌<◌, ◌++◌, ℕ, Bool, List, [], ◌∷◌, length, All, Option, Some, IfOk, Result, Ok}
use Rattle.bal_base.specs.declared.fault.Fault.{Fault}
use Rattle.bal_base.specs.declared.fault.FaultCode.TheVariants.{AtomLimit}
use Rattle.bal_base.specs.declared.fault.Kept.TheVariants.{Nothing}
use Rattle.bal_base.specs.declared.limits.TheConstants.{MOST_ATOMS}
use Rattle.bal_base.specs.declared.place.Place.{Place}
use Rattle.bal_base.specs.declared.stop.Stop.{Stop}
use Rattle.bal_base.specs.declared.text.Text.{Text}
use Rattle.bal_tree.specs.declared.name.QualifiedName.{QualifiedName}
use Rattle.type_model.specs.declared.atoms.AtomDef.{AtomDef}
use Rattle.type_model.specs.declared.atoms.FieldDef.{FieldDef}
use Rattle.type_model.specs.declared.basic.SemType.{SemType}
use Rattle.type_model.specs.declared.basic.Ty.{Ty}
use Rattle.type_model.specs.Defined.{DefBelow, TyBelow}
use Rattle.type_model.specs.Places.{HasDistinctFields}
use Rattle.checks.specs.Checks.{Check, Comes, Gives, Refuses, ◌▷◌, gives, gives_some}
use Rattle.checks.specs.Questions.{IsFault}
use Rattle.descriptors.specs.declared.draft.Draft.{Draft}
use Rattle.descriptors.specs.declared.names.Names.{Names}
use Rattle.descriptors.specs.declared.names.Scope.{Scope}
use Rattle.descriptors.specs.Described.{Atoms, all_by, arrow_by, described_by, fields_by, if_by, list_by, mapping_by, new_field, params_of, plain_by, result_by}
use Rattle.descriptors.specs.Descriptors.{Descriptor, Descriptors, FieldDescriptors, FieldOf, MaybeDescriptor}
use Rattle.descriptors.specs.Naming.{type_named}
use Rattle.descriptors.specs.Steps.{AreOwnTypes}

-- the number of the next atom of a draft
abbrev pub next_of : Draft → ℕ
next_of d = d.first + length d.atoms.items

-- an atom more, which has this definition; this gives its number
unfoldable pub numbered_on : AtomDef → Place → Check Draft ℕ
numbered_on def at old (Gives n) new =
    (next_of old < MOST_ATOMS) × (n ≡ next_of old) × (new.first ≡ old.first) × (new.atoms.items ≡ old.atoms.items ++ def ∷ [])
numbered_on def at old (Refuses f) new = (MOST_ATOMS ≤ next_of old) × IsFault AtomLimit (Some at) Nothing f × (new ≡ old)

-- ---- the table over drafts

abbrev pub drafted_list : List Ty → Option Ty → Place → Check Draft Ty
drafted_list = list_by numbered_on

abbrev pub drafted_mapping : List FieldDef → Option Ty → Place → Check Draft Ty
drafted_mapping = mapping_by numbered_on

abbrev pub drafted_plain : AtomDef → Place → Check Draft Ty
drafted_plain = plain_by numbered_on

abbrev pub drafted_arrow : Bool → List Ty → Option Ty → SemType → Place → Check Draft Ty
drafted_arrow = arrow_by numbered_on

module _ (names : Names) where
  -- a type, or types, of which this holds over all atoms over which the language's own types are what they are
  abbrev pub wherever : (A : Type 0) → (Atoms → A → Type 0) → Check Draft A
  wherever A P = gives_some (λ draft a. (env : Atoms) → AreOwnTypes env names.own → P env a)

  module _ (scope : Scope) where
    abbrev pub drafted : Descriptor → Check Draft Ty
    drafted = described_by numbered_on wherever names scope

    abbrev pub all_drafted : List Ty → Descriptors → Check Draft (List Ty)
    all_drafted = all_by numbered_on wherever names scope

    abbrev pub fields_drafted : List FieldDef → FieldDescriptors → Check Draft (List FieldDef)
    fields_drafted = fields_by numbered_on wherever names scope

    abbrev pub drafted_if : MaybeDescriptor → Check Draft (Option Ty)
    drafted_if = if_by numbered_on wherever names scope

    abbrev pub result_drafted : MaybeDescriptor → Check Draft Ty
    result_drafted = result_by numbered_on wherever names scope

    -- the parameters of a function type, and what takes the rest
    abbrev pub params_drafted : Descriptors → MaybeDescriptor → Check Draft (List Ty × Option Ty)
    params_drafted params rest = all_drafted [] params ▷ λ fixed. drafted_if rest ▷ λ r. gives (params_of fixed r)

    -- a field of a record, where these names are taken
    abbrev pub field_drafted : List Text → FieldOf → Check Draft FieldDef
    field_drafted taken f = drafted f.ty ▷ λ t. new_field taken f.name f.optional t

-- ---- which atoms are named

-- each type that a name stands for names only the first n atoms, and so do those of the language's own types that descriptors need
pub record AreNamesBelow (names : Names) (n : ℕ) : Type 0 where
  pub types : (scope : Scope) (name : QualifiedName) (t : Ty) → type_named names scope name ≡ Ok t → TyBelow n t
  pub anydata : TyBelow n names.own.anydata
  pub isolated : names.own.isolated < n

-- the definitions name only the first n atoms, and the fields of each mapping have different names
abbrev pub AreSound : ℕ → List AtomDef → Type 0
AreSound n = All (λ def. DefBelow n def × HasDistinctFields def)

-- ---- calls

-- The call is the check on the draft, which stays within the limit. Given: what has to be so of the first n atoms, where the draft's own are among them. There what
-- was drafted is sound where it was so before, and what the call gives names those atoms alone.
pub record Drafts {A : Type 0} (Given : ℕ → Type 0) (IsOver : ℕ → A → Type 0) (check : Check Draft A) (old : Draft) (r : Result A (Stop Fault)) (new : Draft) : Type 0 where
  pub comes : Comes check old r new
  pub first : new.first ≡ old.first
  pub grows : next_of old ≤ next_of new
  pub bound : next_of old ≤ MOST_ATOMS → next_of new ≤ MOST_ATOMS
  pub sound : (n : ℕ) → next_of new ≤ n → Given n → AreSound n old.atoms.items → AreSound n new.atoms.items
  pub over : (n : ℕ) → next_of new ≤ n → Given n → IfOk r (IsOver n)
