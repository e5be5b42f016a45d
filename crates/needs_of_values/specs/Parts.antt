-- The last parts, and parts of which one is made.
use Rattle.std.specs.Prelude.{◌≡◌, ◌++◌, ℕ, List, [], ◌∷◌, Option, Some, length}
use Rattle.typed_tree.specs.declared.expr.TypedExpr.{TypedExpr}
use Rattle.typed_tree.specs.SharedTypes.{Shared}
use Rattle.check_words.specs.State.{AreLast, all_but}
use Rattle.check_work.specs.declared.work.Unit.{Unit as UnitHeld}
use Rattle.check_work.specs.Views.{unit_of}

-- this holds of the last two
pub record OfLastTwo (P : TypedExpr → TypedExpr → Type 0) (found : List TypedExpr) : Type 0 where
  pub a : TypedExpr
  pub b : TypedExpr
  pub last : AreLast found 2 (a ∷ b ∷ [])
  pub holds : P a b

-- the last two parts became one of which this holds
pub record MadeOfTwo (P : TypedExpr → TypedExpr → TypedExpr → Type 0) (old new : List TypedExpr) : Type 0 where
  pub a : TypedExpr
  pub b : TypedExpr
  pub e : TypedExpr
  pub last : AreLast old 2 (a ∷ b ∷ [])
  pub made : P a b e
  pub after : new ≡ all_but 2 old ++ e ∷ []

-- the last three did
pub record MadeOfThree (P : TypedExpr → TypedExpr → TypedExpr → TypedExpr → Type 0) (old new : List TypedExpr) : Type 0 where
  pub a : TypedExpr
  pub b : TypedExpr
  pub c : TypedExpr
  pub e : TypedExpr
  pub last : AreLast old 3 (a ∷ b ∷ c ∷ [])
  pub made : P a b c e
  pub after : new ≡ all_but 3 old ++ e ∷ []

-- the unit at hand has a slot more, of this type, and this is its number
pub record HasSlotMore (ty : Shared) (slot : ℕ) (old new : Option UnitHeld) : Type 0 where
  pub unit : UnitHeld
  pub was : old ≡ Some unit
  pub after : UnitHeld
  pub is : new ≡ Some after
  pub more : unit_of after ≡ record (unit_of unit) { slots = unit.slots.items ++ ty ∷ [] }
  pub number : slot ≡ length unit.slots.items
