-- Parts of lists and texts, between places that ints name.
use Rattle.std.specs.Prelude.{⊤, ◌≡◌, ℕ, ℤ, pos, List, [], ◌∷◌, Option, Some, None, length, nat_abs}
use Rattle.value_model.specs.declared.panics.PanicName.TheVariants.{IndexOutOfRange}
use Rattle.value_model.specs.declared.value.Value.{Value}
use Rattle.value_model.specs.declared.value.Value.TheVariants.{Int}
use Rattle.value_model.specs.World.{World, Came}
use Rattle.op_model.specs.Rows.{GivesList, panics}
use Rattle.op_model.specs.Strings.{AreBounds, part_of}

-- the end that is given, or the length
abbrev pub end_or : Option ℤ → ℕ → ℤ
end_or (Some j) n = j
end_or None n = pos n

-- the part from a place to before another, where the two are places of the list and the first is not behind the second
abbrev pub IsPartOf : {A : Type 0} → List A → ℤ → ℤ → Option (List A) → Type 0
IsPartOf xs i j (Some part) = AreBounds i j (length xs) × (part ≡ part_of (nat_abs i) (nat_abs j) xs)
IsPartOf xs i j None = ¬ (AreBounds i j (length xs))

-- the same of what is there, where it is
abbrev pub IsPartAt : {A : Type 0} → Option (List A) → ℤ → Option ℤ → Option (Option (List A)) → Type 0
IsPartAt (Some xs) i j (Some part) = IsPartOf xs i (end_or j (length xs)) part
IsPartAt (Some xs) i j None = ⊥
IsPartAt None i j (Some part) = ⊥
IsPartAt None i j None = ⊤

-- a new list of a part, or a panic where there is none
abbrev pub GivesPart : World → ℕ → Option (List Value) → Came → Type 0
GivesPart w atom (Some vs) came = GivesList w atom vs came
GivesPart w atom None came = came ≡ panics w IndexOutOfRange

-- the operands of a call that takes a part of a value
abbrev pub bounded : Value → ℤ → Option ℤ → List Value
bounded v i (Some j) = v ∷ Int i ∷ Int j ∷ []
bounded v i None = v ∷ Int i ∷ []
