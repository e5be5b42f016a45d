-- A shape that is found in a set of simple shapes, or that there is none.
use Rattle.std.specs.Prelude.{◌≡◌, ◌⊎◌, ◌≤◌, ℤ, pos, ◌+ℤ◌, ◌-ℤ◌, ◌<ℤ◌, ◌≤ℤ◌, unsigned_abs, List, Bool, true, false, Option, Some, None}
use Rattle.std.specs.Ordering.{nat_cmp}
use Rattle.std.specs.Cmp.Lexicographic.{slice_cmp}
use Rattle.bal_base.specs.declared.text.Text.{Text}
use Rattle.bal_base.specs.declared.shape.Shape.{Shape, Int}
use Rattle.bal_base.specs.Valid.{IsInt, IsText, IsValid}
use Rattle.type_diagrams.specs.Kinds.{IsSimple}
use Rattle.type_diagrams.specs.Sets.{answer_for, covers, least_int}

-- a valid simple shape of which the test is true, or none where there is none
abbrev pub FindsSimple : (Shape → Bool) → Option Shape → Type 0
FindsSimple has (Some x) = IsSimple x × IsValid x × (has x ≡ true)
FindsSimple has None = (x : Shape) → IsSimple x → IsValid x → has x ≡ false

-- where the shape is an int, no int of which the test is true is nearer to 0
abbrev pub IsNearest : (Shape → Bool) → Shape → Type 0
IsNearest has x = (i j : ℤ) → x ≡ Int i → IsInt j → has (Int j) ≡ true → unsigned_abs i ≤ unsigned_abs j

-- the same of ints, where none of which the test is true is nearer to 0, and of strings
abbrev pub FindsInt : (ℤ → Bool) → Option ℤ → Type 0
FindsInt has (Some i) = IsInt i × (has i ≡ true) × ((j : ℤ) → IsInt j → has j ≡ true → unsigned_abs i ≤ unsigned_abs j)
FindsInt has None = (i : ℤ) → IsInt i → has i ≡ false

abbrev pub FindsText : (Text → Bool) → Option Text → Type 0
FindsText has (Some t) = IsText t × (has t ≡ true)
FindsText has None = (t : Text) → IsText t → has t ≡ false

-- the int nearest to 0 of a set: 0 where the set has the ints from `low` up to `above`; and else the nearer of
-- `above` and the int before `low`, if there is one
abbrev pub IsNextToZero : ℤ → Bool → ℤ → ℤ → Type 0
IsNextToZero low true above i = i ≡ pos 0
IsNextToZero low false above i =
    ((i ≡ above) × ((low ≡ least_int) ⊎ (((low -ℤ pos 1) +ℤ above) ≤ℤ pos 0)))
    ⊎ ((i ≡ low -ℤ pos 1) × (least_int <ℤ low) × (pos 0 ≤ℤ ((low -ℤ pos 1) +ℤ above)))

-- a text that none of these is
pub record IsLeftOut (texts : List Text) (t : Text) : Type 0 where
  pub text : IsText t
  pub outside : answer_for (covers false (slice_cmp nat_cmp)) true texts t ≡ true
