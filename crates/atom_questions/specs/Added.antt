-- Which atoms questions add.
use Rattle.std.specs.Prelude.{◌≡◌, ◌⊎◌, ◌++◌, [], ◌∷◌, false, List, Some, None}
use Rattle.std.specs.List.{AllZip}
use Rattle.bal_base.specs.declared.text.Text.{Text}
use Rattle.type_model.specs.declared.atoms.AtomDef.{AtomDef}
use Rattle.type_model.specs.declared.atoms.AtomDef.TheVariants.{List as ListAtom, Mapping as MappingAtom}
use Rattle.type_model.specs.declared.atoms.FieldDef.{FieldDef}
use Rattle.type_model.specs.declared.basic.BasicSet.TheVariants.{FunctionAll, Never}
use Rattle.type_model.specs.declared.basic.SemType.{SemType, Basic}
use Rattle.type_model.specs.declared.basic.Ty.{Ty}
use Rattle.type_model.specs.SameType.{IsSameType}
use Rattle.code_verifier.specs.KindSets.{IsAllBut, IsBoth}

-- the atoms are as before, or there is one more, which is so defined
abbrev pub HasOneMore : List AtomDef → (AtomDef → Type 0) → List AtomDef → Type 0
HasOneMore old IsDef new = (new ≡ old) ⊎ ((def : AtomDef) × IsDef def × (new ≡ old ++ def ∷ []))

-- the type of all shapes
abbrev pub IsAny : Ty → Type 0
IsAny t = IsAllBut Never t.sem × (t.lists ≡ []) × (t.maps ≡ [])

-- mappings that have this key, and any members
pub record IsFieldDef (name : Text) (def : AtomDef) : Type 0 where
  pub field : FieldDef
  pub rest : Ty
  pub is : def ≡ MappingAtom (field ∷ []) (Some rest)
  pub named : field.name ≡ name
  pub required : field.optional ≡ false
  pub of_any : IsAny field.ty
  pub rest_any : IsAny rest

-- the type without constructor choices
abbrev pub IsPlainOf : SemType → Ty → Type 0
IsPlainOf s t = IsSameType s t.sem × (t.lists ≡ []) × (t.maps ≡ [])

-- lists of just these arguments
pub record IsArgsDef (args : List SemType) (def : AtomDef) : Type 0 where
  pub fixed : List Ty
  pub is : def ≡ ListAtom fixed None
  pub are : AllZip IsPlainOf args fixed

-- the functions of a type
abbrev pub IsFunctionsOf : SemType → SemType → Type 0
IsFunctionsOf f g = IsBoth (IsSameType f) (λ s. s ≡ Basic FunctionAll) g
