-- What is asked of a member of a mapping by its key, step by step.
use Rattle.std.specs.Prelude.{◌≡◌, ℕ, List, Option, Some, None, length, slice_get, unwrap_or}
use Rattle.bal_base.specs.declared.place.Place.{Place}
use Rattle.bal_base.specs.declared.shape.Shape.{Str}
use Rattle.bal_base.specs.declared.text.Text.{Text}
use Rattle.checks.specs.Checks.{Check, gives_some, ◌▷◌}
use Rattle.descriptors.specs.Described.{plain}
use Rattle.operations.specs.Structures.{IsMappingAtom}
use Rattle.type_model.specs.declared.answers.TypeLimit.{TypeLimit}
use Rattle.type_model.specs.declared.atoms.AtomDef.{AtomDef}
use Rattle.type_model.specs.declared.atoms.AtomDef.TheVariants.{List as ListAtom, Mapping as MappingAtom, Arrow, Error as ErrorAtom, Future as FutureAtom}
use Rattle.type_model.specs.declared.basic.BasicSet.TheVariants.{Never}
use Rattle.type_model.specs.declared.atoms.FieldDef.{FieldDef}
use Rattle.type_model.specs.declared.basic.SemType.{Basic, SemType}
use Rattle.type_model.specs.declared.basic.Ty.{Ty}
use Rattle.type_model.specs.Calls.{Asked}
use Rattle.type_model.specs.Inclusion.{IsShapeOf}
use Rattle.type_model.specs.SameType.{IsSameType}
use Rattle.typed_tree.specs.declared.expr.TypedExpr.{TypedExpr}
use Rattle.typed_tree.specs.SharedTypes.{Shared}
use Rattle.check_words.specs.Constructors.{IsLastKey, IsWantCopy, fields_of_choice, fits_fields, fits_keys, member_type}
use Rattle.check_words.specs.State.{ConstructorAtWork, State}
use Rattle.check_words.specs.Words.{Atoms, Step, below_if, last_constructor, last_part, last_two, last_want, sem}
use Rattle.needs_of_structures.specs.Fitting.{stands_so}

-- what is wanted is a copy of the type at the key of these mappings, or of `never` where there is none
abbrev pub IsKeyCopy : AtomDef → Option Text → Option Shared → Type 0
IsKeyCopy (MappingAtom fields rest) key w = IsWantCopy (unwrap_or (member_type fields rest key) (plain (Basic Never))) w
IsKeyCopy (ListAtom fixed rest) key w = ⊥
IsKeyCopy (Arrow args outcome alone) key w = ⊥
IsKeyCopy (ErrorAtom detail) key w = ⊥
IsKeyCopy (FutureAtom outcome) key w = ⊥

-- the same of an atom
abbrev pub IsKeyCopyOf : Atoms → ℕ → Option Text → Option Shared → Type 0
IsKeyCopyOf env atom key w = IsMappingAtom env atom (λ fields rest. IsWantCopy (unwrap_or (member_type fields rest key) (plain (Basic Never))) w)

-- ---- fields

-- the fields of the mappings of an atom, the one at a place, and how many there are
abbrev pub IsFieldsOf : Atoms → ℕ → List FieldDef → Type 0
IsFieldsOf env atom fields = IsMappingAtom env atom (λ fs rest. fields ≡ fs)

abbrev pub IsFieldIn : AtomDef → ℕ → FieldDef → Type 0
IsFieldIn (MappingAtom fields rest) place f = slice_get fields place ≡ Some f
IsFieldIn (ListAtom fixed rest) place f = ⊥
IsFieldIn (Arrow args outcome alone) place f = ⊥
IsFieldIn (ErrorAtom detail) place f = ⊥
IsFieldIn (FutureAtom outcome) place f = ⊥

abbrev pub IsFieldAt : Atoms → ℕ → ℕ → FieldDef → Type 0
IsFieldAt env atom place f = IsMappingAtom env atom (λ fields rest. slice_get fields place ≡ Some f)

abbrev pub HasCount : AtomDef → ℕ → Type 0
HasCount (MappingAtom fields rest) n = n ≡ length fields
HasCount (ListAtom fixed rest) n = ⊥
HasCount (Arrow args outcome alone) n = ⊥
HasCount (ErrorAtom detail) n = ⊥
HasCount (FutureAtom outcome) n = ⊥

abbrev pub IsCountOf : Atoms → ℕ → ℕ → Type 0
IsCountOf env atom n = IsMappingAtom env atom (λ fields rest. n ≡ length fields)

-- the field's type, if the key may be its name
abbrev pub IsAsked : Atoms → SemType → FieldDef → Option SemType → Type 0
IsAsked env key f None = ¬ IsShapeOf env key (Str f.name)
IsAsked env key f (Some t) = IsShapeOf env key (Str f.name) × IsSameType f.ty.sem t

-- ---- members

module _ (passes : List AtomDef → Asked → TypeLimit → Type 0) where
  -- each field of the atom whose name the key may be
  abbrev pub all_fields_fit : TypedExpr → TypedExpr → ℕ → Place → Step
  all_fields_fit key e atom at = fields_of_choice passes atom ▷ λ fields. fits_fields passes (sem key) e at fields

  abbrev pub computed_fits : ℕ → Place → Step
  computed_fits atom at = last_two ▷ λ p. all_fields_fit p.0 p.1 atom at

  abbrev pub has_right_key : ConstructorAtWork → Place → Step
  has_right_key c at = gives_some (λ s key. IsLastKey c key) ▷ λ key. fits_keys passes c.choice key at

  abbrev pub keyed_so : ConstructorAtWork → TypedExpr → Place → Check State Ty
  keyed_so c e at = has_right_key c at ▷ λ u. stands_so passes c e at

  abbrev pub member_so : ConstructorAtWork → TypedExpr → Option Shared → Place → Check State Ty
  member_so c e w at = below_if passes w e at ▷ λ u. keyed_so c e at

  abbrev pub fits_member : Place → Check State Ty
  fits_member at = last_constructor ▷ λ c. last_part ▷ λ e. last_want ▷ λ w. member_so c e w at
