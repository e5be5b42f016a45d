-- What stands at a place: of fillings of a product, and of whatever else has parts.
use Rattle.std.specs.Prelude.{◌≡◌, ◌⊎◌, ⊤, ℕ, List, All, Option, Some, None, slice_get}
use Rattle.bal_base.specs.declared.shape.Shape.{Shape}
use Rattle.type_model.specs.declared.atoms.AtomDef.{AtomDef}
use Rattle.type_diagrams.specs.declared.projection.Projection.{Projection}
use Rattle.type_diagrams.specs.declared.projection.Projection.TheVariants.{Parts, Ask}
use Rattle.type_diagrams.specs.Conditions.{Condition, IsShapeOf, IsNothing, LooksAtKinds, Meets}
use Rattle.type_diagrams.specs.Kept.{IsUnknown}
use Rattle.type_diagrams.specs.Tables.{Table, IsDiagram, condition}
use Rattle.empty_product.specs.declared.slots.Slot.{Slot}
use Rattle.empty_product.specs.declared.slots.Slot.TheVariants.{Optional, Absent, Present}
use Rattle.empty_product.specs.declared.slots.Unwanted.{Unwanted}
use Rattle.empty_product.specs.Products.{AsksPart, Avoids, HasHeldPart, IsIn}
use Rattle.empty_product.specs.Slots.{Asking, Place}

-- Besides what was found, the question has exactly the parts that stand in some whole, but for wholes that are
-- held to have none.
module _ {Whole : Type 0} (env : List AtomDef) (table : Table) (Stands : Whole → Shape → Type 0) (IsHeld : Whole → Type 0) (found : Condition) where
  pub record Gathers (question : ℕ) : Type 0 where
    pub diagram : IsDiagram table question
    pub found_too : (y : Shape) → IsShapeOf env found y → Meets env (condition table question) y
    pub from : (y : Shape) → IsShapeOf env (condition table question) y → Meets env found y ⊎ ((whole : Whole) × Stands whole y)
    pub to : (whole : Whole) (y : Shape) → Stands whole y → Meets env (condition table question) y ⊎ IsHeld whole

-- ---- one place of a product

-- the question of the part that a slot may have
abbrev pub question_of : Slot → Option ℕ
question_of (Optional q) = Some q
question_of Absent = None
question_of (Present q) = Some q

-- the part stands at the target of a filling that avoids the atoms
pub record StandsInFilling (env : List AtomDef) (places : List Place) (atoms : List (List Asking)) (target : ℕ) (parts : List (Option Shape)) (y : Shape) : Type 0 where
  pub fills : IsIn env places parts
  pub avoiding : All (λ a. Avoids env a parts) atoms
  pub stands : slice_get parts target ≡ Some (Some y)

module _ (env : List AtomDef) (table : Table) (kept : List (ℕ × Option Shape)) (places : List Place) (atoms : List (List Asking)) (target : ℕ) (found : Condition) where
  abbrev pub TellsStanding : Projection → Type 0
  TellsStanding (Parts question) = Gathers env table (StandsInFilling env places atoms target) (HasHeldPart env table kept) found question
  TellsStanding (Ask question) =
      IsDiagram table question × IsUnknown kept question × (¬ IsNothing (condition table question)) × AsksPart places atoms (condition table question)

-- ---- at what the questions look

abbrev pub SlotLooks : List AtomDef → Table → Slot → Type 0
SlotLooks env table (Optional q) = LooksAtKinds env (condition table q)
SlotLooks env table Absent = ⊤
SlotLooks env table (Present q) = LooksAtKinds env (condition table q)

abbrev pub AreLooking : List AtomDef → Table → List Slot → List Unwanted → Type 0
AreLooking env table slots us = All (SlotLooks env table) slots × All (λ u. All (λ d. LooksAtKinds env (condition table d.question)) u.demands.items) us
