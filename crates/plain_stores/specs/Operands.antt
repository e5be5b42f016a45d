-- Operands of stores.
use Rattle.std.specs.Prelude.{◌≡◌, ℕ, ℤ, List, [], ◌∷◌, Option, Some, None}
use Rattle.bal_base.specs.declared.text.Text.{Text}
use Rattle.value_model.specs.declared.value.Value.{Value}
use Rattle.value_model.specs.declared.value.Value.TheVariants.{Int, Str, Struct}

-- a structure, an int and a value
abbrev pub AreItemOperands : List Value → Option (ℕ × ℤ × Value) → Type 0
AreItemOperands vs (Some (n, i, v)) = vs ≡ Struct n ∷ Int i ∷ v ∷ []
AreItemOperands vs None = (n : ℕ) (i : ℤ) (v : Value) → ¬ (vs ≡ Struct n ∷ Int i ∷ v ∷ [])

-- a structure, a string and a value
abbrev pub AreKeyOperands : List Value → Option (ℕ × Text × Value) → Type 0
AreKeyOperands vs (Some (n, t, v)) = vs ≡ Struct n ∷ Str t ∷ v ∷ []
AreKeyOperands vs None = (n : ℕ) (t : Text) (v : Value) → ¬ (vs ≡ Struct n ∷ Str t ∷ v ∷ [])
