-- Which atoms are avoided by further parts: those behind all places that atoms tell apart.
use Rattle.std.specs.Prelude.{◌≡◌, ◌⊎◌, ℕ, List, map, All, Any, Contains, Option}
use Rattle.bal_base.specs.declared.shape.Shape.{Shape}
use Rattle.type_model.specs.declared.atoms.AtomDef.{AtomDef}
use Rattle.type_diagrams.specs.Conditions.{Condition, AreOne, Meets, IsShapeOf, IsNothing, without}
use Rattle.type_diagrams.specs.Kept.{IsUnknown}
use Rattle.type_diagrams.specs.Tables.{Table, IsDiagram, condition}
use Rattle.empty_product.specs.Slots.{IsInHeld}
use Rattle.empty_product.specs.declared.further.RestDemand.{RestDemand}
use Rattle.empty_product.specs.declared.further.Further.{Further}
use Rattle.empty_product.specs.declared.further.Further.TheVariants.{Parts, Ask}

-- an atom asks something of all further parts
pub record RestAsking : Type 0 where
  pub atom : ℕ
  pub part : Condition

abbrev pub rest_asking_of : Table → RestDemand → RestAsking
rest_asking_of table d = record { atom = d.atom; part = condition table d.question }

abbrev pub rest_askings_of : Table → List RestDemand → List RestAsking
rest_askings_of table ds = map (rest_asking_of table) ds

module _ (env : List AtomDef) (table : Table) (kept : List (ℕ × Option Shape)) (rest : Condition) where
  -- a further part by which the atom is avoided
  pub record IsAvoidedBy (a : RestAsking) (x : Shape) : Type 0 where
    pub inside : IsShapeOf env rest x
    pub avoids : ¬ Meets env a.part x

  -- each further part by which the atom is avoided is in a question that is held to be empty
  abbrev pub MustStay : RestAsking → Type 0
  MustStay a = (x : Shape) → IsAvoidedBy a x → IsInHeld env table kept x

  -- each atom is avoided by one of these further parts, or stays; and those that stay must
  pub record AreSplit (askings : List RestAsking) (parts : List Shape) (staying : List ℕ) : Type 0 where
    pub inside : All (IsShapeOf env rest) parts
    pub each : All (λ a. Any (IsAvoidedBy a) parts ⊎ Contains staying a.atom) askings
    pub stay : All (λ s. Any (λ a. (a.atom ≡ s) × MustStay a) askings) staying

  abbrev pub TellsFurther : List RestAsking → Further → Type 0
  TellsFurther askings (Parts split) = AreSplit askings split.parts.items split.staying.items
  TellsFurther askings (Ask q) =
      IsDiagram table q × IsUnknown kept q × (¬ IsNothing (condition table q))
      × Any (λ a. AreOne (condition table q) (without rest a.part)) askings
