-- Operands of the kinds that an operation takes.
use Rattle.std.specs.Prelude.{◌≡◌, ℕ, ℤ, List, [], ◌∷◌, Option, Some, None}
use Rattle.bal_base.specs.declared.text.Text.{Text}
use Rattle.value_model.specs.declared.value.Value.{Value}
use Rattle.value_model.specs.declared.value.Value.TheVariants.{Int, Str, Struct}

-- a structure and an int
abbrev pub AreStructureAndInt : List Value → Option (ℕ × ℤ) → Type 0
AreStructureAndInt vs (Some (n, i)) = vs ≡ Struct n ∷ Int i ∷ []
AreStructureAndInt vs None = (n : ℕ) (i : ℤ) → ¬ (vs ≡ Struct n ∷ Int i ∷ [])

-- a structure and a string
abbrev pub AreStructureAndText : List Value → Option (ℕ × Text) → Type 0
AreStructureAndText vs (Some (n, t)) = vs ≡ Struct n ∷ Str t ∷ []
AreStructureAndText vs None = (n : ℕ) (t : Text) → ¬ (vs ≡ Struct n ∷ Str t ∷ [])

-- a string and an int
abbrev pub AreTextAndInt : List Value → Option (Text × ℤ) → Type 0
AreTextAndInt vs (Some (t, i)) = vs ≡ Str t ∷ Int i ∷ []
AreTextAndInt vs None = (t : Text) (i : ℤ) → ¬ (vs ≡ Str t ∷ Int i ∷ [])

-- a structure alone
abbrev pub IsStructure : List Value → Option ℕ → Type 0
IsStructure vs (Some n) = vs ≡ Struct n ∷ []
IsStructure vs None = (n : ℕ) → ¬ (vs ≡ Struct n ∷ [])
