-- How a part of a tree stands in the whole.
use Rattle.std.specs.Prelude.{List, [], ◌∷◌, Bool, true, false, Option, None, Some, map}
use Rattle.std.specs.Global.{Box}

-- outside brackets, between the brackets `( [ { {|` and their partners, or between the `?` and the `:` of a conditional
-- expression
pub data Part (A : Type 0) : Type 0 where
  outside : A → Part A
  inside : A → Part A
  between : A → Part A

module _ {A : Type 0} where
  -- each between brackets
  abbrev pub each_inside : List A → List (Part A)
  each_inside parts = map inside parts

  -- what may be absent
  abbrev pub part_if : (A → Part A) → Option (Box A) → List (Part A)
  part_if stands None = []
  part_if stands (Some part) = stands part.value ∷ []

  -- the part itself
  abbrev pub part_of : Part A → A
  part_of (outside part) = part
  part_of (inside part) = part
  part_of (between part) = part

-- whether a part of what stands in a middle, or not in one, stands itself in a middle outside brackets
abbrev pub in_middle : {A : Type 0} → Bool → Part A → Bool
in_middle middle (outside part) = middle
in_middle middle (inside part) = false
in_middle middle (between part) = true
