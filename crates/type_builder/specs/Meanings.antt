-- What the definitions of a package mean, over the finished atoms: by numbers in text order, so that types may name one another
-- inside lists, mappings, errors, functions and futures.
use Rattle.std.specs.Prelude.{◌≡◌, ◌+◌, ◌<◌, ℕ, suc, Bool, List, [], ◌∷◌, map, Option, None, Some, ⊤, slice_get}
use Rattle.std.specs.List.{AllZip}
use Rattle.bal_base.specs.declared.place.Place.{Place}
use Rattle.bal_tree.specs.declared.def.ConstDef.{ConstDef}
use Rattle.bal_tree.specs.declared.def.Def.{Def}
use Rattle.bal_tree.specs.declared.def.Def.TheVariants.{«Type» as TypeOf, Const, Variable as VariableOf, Function as FunctionOf}
use Rattle.bal_tree.specs.declared.def.FunctionDef.{FunctionDef}
use Rattle.bal_tree.specs.declared.params.Param.{Param}
use Rattle.checks.specs.Checks.{Check, Gives, Refuses, ◌▷◌, gives, gives_some}
use Rattle.descriptors.specs.Described.{Atoms, IsRewritten, all_by, described_by, if_by, plain, result_by, value_set}
use Rattle.descriptors.specs.Descriptors.{Descriptor, MaybeDescriptor, absent, present, descriptor_if, descriptor_of, in_a_row}
use Rattle.descriptors.specs.Drafts.{numbered_on, wherever}
use Rattle.descriptors.specs.declared.draft.Draft.{Draft}
use Rattle.descriptors.specs.declared.names.Entry.{Entry}
use Rattle.descriptors.specs.declared.names.Meaning.{Meaning}
use Rattle.descriptors.specs.declared.names.Meaning.TheVariants.{TypeName, Constant, Variable, Function}
use Rattle.descriptors.specs.declared.names.Names.{Names}
use Rattle.descriptors.specs.declared.names.Scope.{Scope}
use Rattle.descriptors.specs.declared.names.Signature.{Signature}
use Rattle.name_resolution.specs.Definitions.{Placed, functions_in, is_public, scope_at, variables_in}
use Rattle.type_builder.specs.declared.earlier.Earlier.{Earlier}
use Rattle.type_builder.specs.declared.meanings.Values.{Values}
use Rattle.type_model.specs.declared.atoms.AtomDef.{AtomDef}
use Rattle.type_model.specs.declared.atoms.AtomDef.TheVariants.{List as ListAtom, Arrow, Future as FutureAtom}
use Rattle.type_model.specs.declared.basic.SemType.{Atom, Basic}
use Rattle.type_model.specs.declared.basic.Ty.{Ty}

-- types with the same shapes and the same choices, one by one
abbrev pub AreRewritten : Atoms → List Ty → List Ty → Type 0
AreRewritten env = AllZip (λ t u. IsRewritten t env u)

abbrev pub IfRewritten : Atoms → Option Ty → Option Ty → Type 0
IfRewritten env None None = ⊤
IfRewritten env None (Some u) = ⊥
IfRewritten env (Some t) None = ⊥
IfRewritten env (Some t) (Some u) = IsRewritten t env u

-- the atoms of a function as a value
abbrev pub values_of : ℕ → ℕ → ℕ → Values
values_of arrow lists future = record { arrow = arrow; lists = lists; future = future }

abbrev pub ValuesBelow : ℕ → Values → Type 0
ValuesBelow n v = (v.arrow < n) × (v.lists < n) × (v.future < n)

-- ---- how many functions and variables come before

abbrev pub nothing_earlier : Earlier
nothing_earlier = record { functions = 0; variables = 0 }

abbrev pub earlier_with : Earlier → Def → Earlier
earlier_with before d = record { functions = before.functions + functions_in d; variables = before.variables + variables_in d }

-- the signature of a function of these types
pub record IsSignature (unit : ℕ) (isolated : Bool) (fixed : List Ty) (rest : Option Ty) (result : Ty) (atoms : Values) (env : Atoms) (s : Signature) : Type 0 where
  pub unit_is : s.unit ≡ unit
  pub isolated_is : s.isolated ≡ isolated
  pub params : AreRewritten env fixed s.params
  pub rest_is : IfRewritten env rest s.rest
  pub result_is : IsRewritten result env s.result
  pub arrow_is : s.arrow ≡ atoms.arrow
  pub lists_is : s.lists ≡ atoms.lists
  pub future_is : s.future ≡ atoms.future

abbrev pub param_descriptor : Param → Descriptor
param_descriptor p = descriptor_of p.ty.value

-- a parameter that takes the rest
abbrev pub rest_descriptor : Option Param → MaybeDescriptor
rest_descriptor None = absent
rest_descriptor (Some p) = present (descriptor_of p.ty.value)

-- S: the states of the checks; atom: an atom more, by its definition; some: a type, or types, of which this holds over the atoms;
-- names: what the names of the package stand for
module _ {S : Type 0} (atom : AtomDef → Place → Check S ℕ) (some : (A : Type 0) → (Atoms → A → Type 0) → Check S A) (names : Names) where
  -- as types are kept
  abbrev pub kept_by : Ty → Check S Ty
  kept_by t = some Ty (IsRewritten t)

  module _ (scope : Scope) where
    -- the atoms of a function of these types as a value
    abbrev pub values_by : FunctionDef → List Ty → Option Ty → Ty → Check S Values
    values_by d fixed rest result =
        atom (ListAtom fixed rest) d.at ▷ λ arguments. atom (Arrow (Atom arguments) result.sem d.isolated) d.at ▷ λ arrow.
        some (Option Ty) (λ env. IfRewritten env rest) ▷ λ others. atom (ListAtom [] others) d.at ▷ λ lists.
        kept_by result ▷ λ given. atom (FutureAtom given.sem) d.at ▷ λ future. gives (values_of arrow lists future)

    -- its signature
    abbrev pub signed_by : ℕ → FunctionDef → List Ty → Option Ty → Ty → Check S Signature
    signed_by unit d fixed rest result = values_by d fixed rest result ▷ λ atoms. some Signature (IsSignature unit d.isolated fixed rest result atoms)

    abbrev pub signature_by : ℕ → FunctionDef → Check S Signature
    signature_by unit d =
        all_by atom some names scope [] (in_a_row (map param_descriptor d.params.params.items)) ▷ λ fixed.
        if_by atom some names scope (rest_descriptor d.params.rest) ▷ λ rest.
        result_by atom some names scope (descriptor_if d.result) ▷ λ result. signed_by unit d fixed rest result

    -- a constant has the type of its value alone
    abbrev pub constant_by : ConstDef → Check S Meaning
    constant_by d = if_by atom some names scope (descriptor_if d.ty) ▷ λ declared. gives (Constant (plain (Basic (value_set d.value))))

    -- what a definition means; `before`: how many functions and variables come before it
    abbrev pub meaning_by : Earlier → Def → Check S Meaning
    meaning_by before (TypeOf d) = described_by atom some names scope (descriptor_of d.ty.value) ▷ λ t. kept_by t ▷ λ u. gives (TypeName u)
    meaning_by before (Const d) = constant_by d
    meaning_by before (VariableOf d) =
        described_by atom some names scope (descriptor_of d.ty.value) ▷ λ t. kept_by t ▷ λ u. gives (Variable before.variables d.is_final u)
    meaning_by before (FunctionOf d) = signature_by before.functions d ▷ λ s. gives (Function s)

  abbrev pub entry_by : Earlier → Placed → Check S Entry
  entry_by before p = meaning_by (scope_at p) before p.def ▷ λ m. gives (record { public = is_public p.def; meaning = m })

  -- those of all definitions in text order
  abbrev pub entries_by : Earlier → List Placed → Check S (List Entry)
  entries_by before [] = gives []
  entries_by before (p ∷ ps) = entry_by before p ▷ λ e. entries_by (earlier_with before p.def) ps ▷ λ es. gives (e ∷ es)

-- ---- over the finished atoms; the number of the next atom is the state

-- `final`: the definitions of all atoms, those of the package among them; `names`: what its names stand for
module _ (final : Atoms) (names : Names) where
  -- the next atom by its number, which has this definition
  unfoldable pub numbered : AtomDef → Place → Check ℕ ℕ
  numbered def at next (Gives n) after = (n ≡ next) × (after ≡ suc next) × (slice_get final next ≡ Some def)
  numbered def at next (Refuses f) after = ⊥

  -- a type, or types, of which this holds over all atoms
  abbrev pub at_the_end : (A : Type 0) → (Atoms → A → Type 0) → Check ℕ A
  at_the_end A P = gives_some (λ next. P final)

  -- the type of a descriptor
  abbrev pub meant : Scope → Descriptor → Check ℕ Ty
  meant = described_by numbered at_the_end names

  abbrev pub meant_if : Scope → MaybeDescriptor → Check ℕ (Option Ty)
  meant_if = if_by numbered at_the_end names

  abbrev pub entries : Earlier → List Placed → Check ℕ (List Entry)
  entries = entries_by numbered at_the_end names

-- ---- over drafts

abbrev pub meaning_drafted : Names → Scope → Earlier → Def → Check Draft Meaning
meaning_drafted names = meaning_by numbered_on (wherever names) names

abbrev pub constant_drafted : Names → Scope → ConstDef → Check Draft Meaning
constant_drafted names = constant_by numbered_on (wherever names) names

abbrev pub values_drafted : Names → Scope → FunctionDef → List Ty → Option Ty → Ty → Check Draft Values
values_drafted names = values_by numbered_on (wherever names) names

abbrev pub signed_drafted : Names → Scope → ℕ → FunctionDef → List Ty → Option Ty → Ty → Check Draft Signature
signed_drafted names = signed_by numbered_on (wherever names) names

abbrev pub signature_drafted : Names → Scope → ℕ → FunctionDef → Check Draft Signature
signature_drafted names = signature_by numbered_on (wherever names) names
