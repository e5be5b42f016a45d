-- An int that a text writes, as it is held.
use Rattle.std.specs.Prelude.{⊤, ◌≡◌, ℤ, Option, Some, None}
use Rattle.bal_base.specs.Valid.{IsInt}

-- the int, where one is written and there is such an int
abbrev pub IsIntOf : Option ℤ → Option ℤ → Type 0
IsIntOf (Some z) (Some n) = IsInt z × (n ≡ z)
IsIntOf (Some z) None = ¬ (IsInt z)
IsIntOf None (Some n) = ⊥
IsIntOf None None = ⊤
