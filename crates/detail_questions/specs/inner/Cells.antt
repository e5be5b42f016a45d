-- Which types stand at the keys of mappings.
use Rattle.std.specs.Prelude.{◌≡◌, ◌↔◌, ℕ, Bool, true, false, not, List, [], Option, Some, None, Any, All, IsTrue, ⊤}
use Rattle.std.specs.List.{AllZip, list_any}
use Rattle.bal_base.specs.declared.shape.Shape.{Shape}
use Rattle.bal_base.specs.declared.text.Text.{Text}
use Rattle.type_model.specs.declared.atoms.AtomDef.{AtomDef}
use Rattle.type_model.specs.declared.atoms.AtomDef.TheVariants.{Mapping as MappingAtom}
use Rattle.type_model.specs.declared.atoms.FieldDef.{FieldDef}
use Rattle.type_model.specs.declared.basic.SemType.{SemType, Basic, Atom, Or', And', Not'}
use Rattle.type_model.specs.declared.basic.Ty.{Ty}
use Rattle.type_model.specs.Defined.{NamesBelow}
use Rattle.type_model.specs.Membership.{In}
use Rattle.type_model.specs.Places.{is_same_text}
use Rattle.type_model.specs.SameType.{IsSameType}
use Rattle.code_verifier.specs.KindSets.{IsEither}
use Rattle.pair_questions.specs.declared.pair.Pair.{Pair}
use Rattle.pair_questions.specs.inner.Strings.{text_of_set, type_has}
use Rattle.detail_questions.specs.declared.cells.Cells.{Cells}
use Rattle.detail_questions.specs.declared.cells.Cells.TheVariants as cell

-- ---- types by what they have over any atoms

-- just such shapes, where so many atoms are there
abbrev pub IsTypeBy : (List AtomDef → Shape → Type 0) → (ℕ → Type 0) → SemType → Type 0
IsTypeBy P N t = ((env : List AtomDef) (x : Shape) → In env x t ↔ P env x) × ((n : ℕ) → N n → NamesBelow n t)

-- without constructor choices
abbrev pub IsPlain : SemType → Ty → Type 0
IsPlain s t = (t.sem ≡ s) × (t.lists ≡ []) × (t.maps ≡ [])

abbrev pub IsTyBy : (List AtomDef → Shape → Type 0) → (ℕ → Type 0) → Ty → Type 0
IsTyBy P N t = IsTypeBy P N t.sem × (t.lists ≡ []) × (t.maps ≡ [])

-- ---- by the string, or for all strings that aren't named

-- a value of a pair whose key has the string
abbrev pub IsValueAt : List Pair → List AtomDef → Option Text → Shape → Type 0
IsValueAt pairs env o x = Any (λ p. IsTrue (type_has p.key.now o) × In env x p.value.now) pairs

abbrev pub ValuesBelow : List Pair → ℕ → Type 0
ValuesBelow pairs n = All (λ p. NamesBelow n p.value.now) pairs

abbrev pub IsWithValue : Pair → Option Text → SemType → SemType → Type 0
IsWithValue pair o values t =
    (type_has pair.key.now o ≡ true → IsEither (λ s. s ≡ values) (IsSameType pair.value.now) t) × (type_has pair.key.now o ≡ false → t ≡ values)

-- anything, where the type doesn't have the string
abbrev pub IsLackingAt : SemType → List AtomDef → Option Text → Shape → Type 0
IsLackingAt key env o x = type_has key o ≡ false

abbrev pub AnyBelow : ℕ → Type 0
AnyBelow n = ⊤

-- ---- keys that have to be there

abbrev pub only_text : SemType → Option Text
only_text (Basic b) = text_of_set b
only_text (Atom n) = None
only_text (Or' _ s _ t) = None
only_text (And' _ s _ t) = None
only_text (Not' _ t) = None

abbrev pub is_that_text : Option Text → Text → Bool
is_that_text (Some own) name = is_same_text own name
is_that_text None name = false

abbrev pub is_only : SemType → Text → Bool
is_only key name = is_that_text (only_text key) name

abbrev pub is_required : List Pair → Text → Bool
is_required pairs name = list_any (λ p. is_only p.key.now name) pairs

abbrev pub may_lack : List Pair → Text → Bool
may_lack pairs name = not (is_required pairs name)

abbrev pub always_lacks : Text → Bool
always_lacks name = true

-- ---- both

abbrev pub IsCell : Cells → List AtomDef → Option Text → Shape → Type 0
IsCell (cell.Values pairs) = IsValueAt pairs.now
IsCell (cell.Without key) = IsLackingAt key.now

abbrev pub CellsBelow : Cells → ℕ → Type 0
CellsBelow (cell.Values pairs) = ValuesBelow pairs.now
CellsBelow (cell.Without key) = AnyBelow

abbrev pub lacks_at : Cells → Text → Bool
lacks_at (cell.Values pairs) = may_lack pairs.now
lacks_at (cell.Without key) = always_lacks

-- ---- atoms of mappings

module _ (P : List AtomDef → Option Text → Shape → Type 0) (N : ℕ → Type 0) (lacks : Text → Bool) where
  abbrev pub IsFieldAt : Text → FieldDef → Type 0
  IsFieldAt name f = IsTyBy (λ env. P env (Some name)) N f.ty × (f.name ≡ name) × (f.optional ≡ lacks name)

  abbrev pub IsTable : List Text → AtomDef → Type 0
  IsTable names def =
      (fields : List FieldDef) × (rest : Ty) × AllZip IsFieldAt names fields × IsTyBy (λ env. P env None) N rest × (def ≡ MappingAtom fields (Some rest))
