-- What atoms ask of the parts of their shapes, as conditions, and what of a path is in play.
use Rattle.std.specs.Prelude.{◌≡◌, ◌<◌, ◌≤◌, ℕ, List, [], ◌∷◌, map, filter, not, ◌==◌, IsSome, IsSomeAnd, ◌⊎◌, Option, Some, None, length, All, Any, false}
use Rattle.bal_base.specs.declared.text.Text.{Text}
use Rattle.type_model.specs.declared.basic.Ty.{Ty}
use Rattle.type_model.specs.declared.atoms.AtomDef.{AtomDef}
use Rattle.type_model.specs.Places.{item_type, key_type}
use Rattle.type_diagrams.specs.Kinds.{the_mark}
use Rattle.type_diagrams.specs.Atoms.{parts_of, list_parts, mapping_parts, error_part, arrow_parts, future_part}
use Rattle.type_diagrams.specs.Conditions.{Condition, condition_of, nothing, asks, IsNothing}

-- the atoms among literals
abbrev pub atoms_in : List ℕ → List ℕ
atoms_in literals = filter (λ l. not (l == the_mark)) literals

-- what is asked where there is something, and nothing where there isn't
abbrev pub asked : {X : Type 0} → (X → Condition) → Option X → Condition
asked ask (Some x) = ask x
asked ask None = nothing

module _ (env : List AtomDef) where
  abbrev pub type_asked : Option Ty → Condition
  type_asked t = asked (λ u. condition_of env u.sem) t

  -- The member type of a list atom at a place, which is its rest where it fixes none. All places behind
  -- the fixed ones ask the same.
  abbrev pub item_of : ℕ → ℕ → Condition
  item_of place a = asked (λ d. type_asked (item_type d.0 d.1 place)) (parts_of list_parts env a)

  -- the list atom has lists of this length
  abbrev pub AllowsLength : ℕ → ℕ → Type 0
  AllowsLength n a =
      IsSomeAnd (parts_of list_parts env a) (λ d. (length d.0 ≤ n) × (length d.0 < n → IsSome d.1))

  -- the place is in the fixed prefix of the list atom
  abbrev pub Fixes : ℕ → ℕ → Type 0
  Fixes place a = IsSomeAnd (parts_of list_parts env a) (λ d. place < length d.0)

  -- The member type of a mapping atom at a key, which is its rest where it doesn't name the key. All keys
  -- that are not named ask the same.
  abbrev pub member_of : Text → ℕ → Condition
  member_of key a = asked (λ d. type_asked (key_type d.0 d.1 key)) (parts_of mapping_parts env a)

  -- the mapping atom doesn't allow the key to be absent
  abbrev pub Requires : Text → ℕ → Type 0
  Requires key a =
      IsSomeAnd (parts_of mapping_parts env a) (λ d. Any (λ f. (f.name ≡ key) × (f.optional ≡ false)) d.0)

  -- what an error atom asks of the detail
  abbrev pub detail_of : ℕ → Condition
  detail_of a = asked (condition_of env) (parts_of error_part env a)

  -- what an arrow takes, and what it gives
  abbrev pub arguments_of : ℕ → Condition
  arguments_of a = asked (λ d. condition_of env d.0) (parts_of arrow_parts env a)

  abbrev pub outcome_of : ℕ → Condition
  outcome_of a = asked (λ d. condition_of env d.1) (parts_of arrow_parts env a)

  -- what a future atom asks of the results
  abbrev pub results_of : ℕ → Condition
  results_of a = asked (condition_of env) (parts_of future_part env a)

-- ---- what is in play

-- no simple shape is in all of these, and for each kind their condition together is constantly false
abbrev pub ArePlainlyApart : List Condition → Type 0
ArePlainlyApart conditions = IsNothing (asks conditions [])

module _ (env : List AtomDef) where
  -- out of play for a list path: an unwanted atom that has no length in common with the wanted ones, or
  -- whose member is plainly apart from theirs at a place that one of them fixes
  abbrev pub IsListOutOfPlay : List ℕ → ℕ → Type 0
  IsListOutOfPlay wanted a =
      ((n : ℕ) → ¬ All (AllowsLength env n) (a ∷ wanted))
      ⊎ ((place : ℕ) × Any (Fixes env place) wanted × ArePlainlyApart (map (item_of env place) (a ∷ wanted)))

  -- out of play for a mapping path: an unwanted atom whose member is plainly apart from those of the
  -- wanted ones at a key that not all of these allow to be absent
  abbrev pub IsMappingOutOfPlay : List ℕ → ℕ → Type 0
  IsMappingOutOfPlay wanted a =
      (key : Text) × Any (Requires env key) (a ∷ wanted) × ArePlainlyApart (map (member_of env key) (a ∷ wanted))
