-- Variables stand in slots of their own, and of slots that come later nothing is known.
use Rattle.std.specs.Prelude.{◌≡◌, ◌≤◌, ◌<◌, ℕ, List, [], ◌∷◌, length, Option, ⊤}
use Rattle.flow_narrowing.specs.declared.flow.Variable.{Variable}
use Rattle.check_words.specs.State.{IsLast, State, UnitAtWork}
use Rattle.tree_promises.specs.Known.{Flow, IsFree}

-- none of the variables stands in the slot
abbrev pub IsSlotOfNone : ℕ → List Variable → Type 0
IsSlotOfNone slot [] = ⊤
IsSlotOfNone slot (v ∷ vs) = (¬ (v.slot ≡ slot)) × IsSlotOfNone slot vs

-- no two of them stand in one slot
abbrev pub AreApart : List Variable → Type 0
AreApart [] = ⊤
AreApart (v ∷ vs) = IsSlotOfNone v.slot vs × AreApart vs

-- they stand in the first so many slots
abbrev pub AreWithin : ℕ → List Variable → Type 0
AreWithin n [] = ⊤
AreWithin n (v ∷ vs) = (v.slot < n) × AreWithin n vs

pub record HaveSlots (n : ℕ) (vs : List Variable) : Type 0 where
  pub apart : AreApart vs
  pub within : AreWithin n vs

-- and so it is of the variables that are seen in the unit at hand, whose slots are its own
pub record HasOwnSlots (s : State) : Type 0 where
  pub unit : UnitAtWork
  pub at_hand : IsLast s.units unit
  pub slots : HaveSlots (length unit.slots) unit.flow.variables

-- of the slots from one on, of so many, nothing is known wherever a panic lands
abbrev pub IsFreeFrom : ℕ → ℕ → Option Flow → Type 0
IsFreeFrom n count base = (slot : ℕ) → n ≤ slot → slot < count → IsFree slot base
