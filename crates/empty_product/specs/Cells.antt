-- What stands at one place of products, the target, which is none of the places that are to be filled.
use Rattle.std.specs.Prelude.{◌≡◌, ◌⊎◌, ⊤, ℕ, List, length, map, ◌++◌, All, Option, Some, false, slice_get, slice_set}
use Rattle.bal_base.specs.declared.shape.Shape.{Shape}
use Rattle.type_model.specs.declared.atoms.AtomDef.{AtomDef}
use Rattle.type_diagrams.specs.declared.projection.Projection.{Projection}
use Rattle.type_diagrams.specs.declared.projection.Projection.TheVariants.{Parts, Ask}
use Rattle.type_diagrams.specs.Conditions.{Condition, IsShapeOf, IsNothing, LooksAtKinds, Meets}
use Rattle.type_diagrams.specs.Kept.{IsUnknown}
use Rattle.type_diagrams.specs.Tables.{Table, IsDiagram, condition}
use Rattle.empty_product.specs.declared.cells.Aimed.{Aimed}
use Rattle.empty_product.specs.declared.slots.Demand.{Demand}
use Rattle.empty_product.specs.declared.slots.Unwanted.{Unwanted}
use Rattle.empty_product.specs.Products.{AsksPart, Avoids, HasHeldPart, IsIn, askings_of}
use Rattle.empty_product.specs.Slots.{Asking, IsDemand, Place}

-- an atom asks something at the target, and something elsewhere
pub record Aim : Type 0 where
  pub there : Condition
  pub elsewhere : List Asking

abbrev pub aim_of : Table → Aimed → Aim
aim_of table a = record { there = condition table a.there; elsewhere = askings_of table a.elsewhere }

abbrev pub aims_of : Table → List Aimed → List Aim
aims_of table aimed = map (aim_of table) aimed

-- the atom is over diagrams, at so many places
pub record IsAimed (table : Table) (places : ℕ) (a : Aimed) : Type 0 where
  pub there : IsDiagram table a.there
  pub elsewhere : All (IsDemand table) a.elsewhere.demands.items
  pub count : length a.elsewhere.demands.items ≡ places

-- what an atom asks, aimed at a place: there its question, and elsewhere all the others
pub record IsAimOf (target : ℕ) (u : Unwanted) (a : Aimed) : Type 0 where
  pub demand : Demand
  pub stands : slice_get u.demands.items target ≡ Some demand
  pub there : a.there ≡ demand.question
  pub elsewhere : a.elsewhere.demands.items ≡ slice_set u.demands.items target (record { question = demand.question; required = false })

-- what some atoms ask, by their demands
abbrev pub demands_in : List Unwanted → List (List Demand)
demands_in us = map (λ u. u.demands.items) us

-- the question for parts is a diagram
abbrev pub GivesDiagram : Table → Projection → Type 0
GivesDiagram table (Parts question) = IsDiagram table question
GivesDiagram table (Ask question) = ⊤

-- it looks at the mark and at atoms of each kind alone
abbrev pub LooksAtParts : List AtomDef → Table → Projection → Type 0
LooksAtParts env table (Parts question) = LooksAtKinds env (condition table question)
LooksAtParts env table (Ask question) = ⊤

-- all that is asked elsewhere
abbrev pub asked_elsewhere : List Aim → List (List Asking) → List (List Asking)
asked_elsewhere undecided decided = map (λ a. a.elsewhere) undecided ++ decided

module _ (env : List AtomDef) (places : List Place) where
  -- The part at the target and a filling of the places. The decided atoms are avoided by the filling, and each of
  -- the others by it or by the part.
  pub record Completes (undecided : List Aim) (decided : List (List Asking)) (part : Condition) (y : Shape) (parts : List (Option Shape)) : Type 0 where
    pub inside : IsShapeOf env part y
    pub fills : IsIn env places parts
    pub avoided : All (λ a. Avoids env a parts) decided
    pub each : All (λ a. Avoids env a.elsewhere parts ⊎ (¬ Meets env a.there y)) undecided

  module _ (table : Table) (kept : List (ℕ × Option Shape)) (undecided : List Aim) (decided : List (List Asking)) (part found : Condition) where
    -- Besides what was found, the question has exactly the parts that some filling completes, but for fillings
    -- with a part in a question that is held to be empty.
    pub record AreCells (question : ℕ) : Type 0 where
      pub diagram : IsDiagram table question
      pub found_too : (y : Shape) → IsShapeOf env found y → Meets env (condition table question) y
      pub from : (y : Shape) → IsShapeOf env (condition table question) y → Meets env found y ⊎ ((parts : List (Option Shape)) × Completes undecided decided part y parts)
      pub to : (y : Shape) (parts : List (Option Shape)) → Completes undecided decided part y parts → Meets env (condition table question) y ⊎ HasHeldPart env table kept parts

    abbrev pub TellsCells : Projection → Type 0
    TellsCells (Parts question) = AreCells question
    TellsCells (Ask question) =
        IsDiagram table question × IsUnknown kept question × (¬ IsNothing (condition table question))
        × AsksPart places (asked_elsewhere undecided decided) (condition table question)
