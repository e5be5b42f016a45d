-- What the definitions of atoms say of single places and keys.
use Rattle.std.specs.Prelude.{◌≡◌, ◌≢◌, ℕ, List, [], ◌∷◌, IsTrue, ◌⊎◌, Bool, Option, Some, None, All, AllPairs, Any, ⊤, slice_get, if◌then◌else◌, nat_eq}
use Rattle.std.specs.Cmp.Lexicographic.{pointwise}
use Rattle.bal_base.specs.declared.text.Text.{Text}
use Rattle.bal_base.specs.declared.shape.Shape.{Shape}
use Rattle.type_model.specs.declared.basic.Ty.{Ty}
use Rattle.type_model.specs.declared.atoms.FieldDef.{FieldDef}
use Rattle.type_model.specs.declared.atoms.AtomDef.{AtomDef}
use Rattle.type_model.specs.declared.atoms.AtomDef.TheVariants.{List as ListAtom, Mapping as MappingAtom, Arrow, Error as ErrorAtom, Future as FutureAtom}

abbrev pub or_rest : Option Ty → Option Ty → Option Ty
or_rest (Some t) rest = Some t
or_rest None rest = rest

-- the type at a place of a list: its own, or the rest's
abbrev pub item_type : List Ty → Option Ty → ℕ → Option Ty
item_type fixed rest place = or_rest (slice_get fixed place) rest

abbrev pub is_same_text : Text → Text → Bool
is_same_text s t = pointwise nat_eq s t

-- the type at a key of a mapping: that of the field of this name, or the rest's
abbrev pub key_type : List FieldDef → Option Ty → Text → Option Ty
key_type [] rest key = rest
key_type (f ∷ fields) rest key = if is_same_text f.name key then Some f.ty else key_type fields rest key

-- a member has the key
abbrev pub HasKey : List (Text × Shape) → Text → Type 0
HasKey members key = Any (λ m. m.0 ≡ key) members

-- each field that isn't optional is there
abbrev pub HasRequired : List FieldDef → List (Text × Shape) → Type 0
HasRequired fields members = All (λ f. IsTrue f.optional ⊎ HasKey members f.name) fields

-- no two fields of a mapping atom have the same name; the other atoms have no fields
abbrev pub HasDistinctFields : AtomDef → Type 0
HasDistinctFields (ListAtom fixed rest) = ⊤
HasDistinctFields (MappingAtom fields rest) = AllPairs (λ f g. f.name ≢ g.name) fields
HasDistinctFields (Arrow args outcome alone) = ⊤
HasDistinctFields (ErrorAtom detail) = ⊤
HasDistinctFields (FutureAtom outcome) = ⊤
