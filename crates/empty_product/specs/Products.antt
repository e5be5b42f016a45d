-- Products: a part or none for each place, so that each of some atoms is avoided at a place.
use Rattle.std.specs.Prelude.{◌≡◌, ℕ, List, [], ◌∷◌, map, length, All, Any, Bool, Option, Some, slice_get, slice_set}
use Rattle.bal_base.specs.declared.shape.Shape.{Shape}
use Rattle.type_model.specs.declared.atoms.AtomDef.{AtomDef}
use Rattle.type_diagrams.specs.Conditions.{Condition, AreOne, IsNothing, asks, without}
use Rattle.type_diagrams.specs.Kept.{IsUnknown}
use Rattle.type_diagrams.specs.Tables.{Table, IsDiagram, condition}
use Rattle.empty_product.specs.declared.slots.Slot.{Slot}
use Rattle.empty_product.specs.declared.slots.Unwanted.{Unwanted}
use Rattle.empty_product.specs.declared.avoid.Filling.{Filling}
use Rattle.empty_product.specs.declared.avoid.Filling.TheVariants.{Parts, Empty, Ask}
use Rattle.empty_product.specs.declared.avoid.Next.{Next}
use Rattle.empty_product.specs.declared.avoid.Next.TheVariants.{Slots as NextSlots, Nothing as NextNothing, Ask as NextAsk}
use Rattle.empty_product.specs.declared.avoid.Kept.{Kept}
use Rattle.empty_product.specs.declared.avoid.Kept.TheVariants.{Part as KeptPart, Void as KeptVoid, Unknown as KeptUnknown}
use Rattle.empty_product.specs.Slots.{Place, Asking, IsAt, AvoidsAt, IsInHeld, IsNarrower, IsVoidAt, condition_at, place_of, asking_of, IsSlot, IsDemand}

abbrev pub places_of : Table → List Slot → List Place
places_of table slots = map (place_of table) slots

abbrev pub askings_of : Table → Unwanted → List Asking
askings_of table u = map (asking_of table) u.demands.items

-- what some atoms ask, atom by atom
abbrev pub all_askings : Table → List Unwanted → List (List Asking)
all_askings table us = map (askings_of table) us

-- the slots are over diagrams, and the demands too; no atom asks at more places than there are
abbrev pub AreSlots : Table → List Slot → Type 0
AreSlots table slots = All (IsSlot table) slots

abbrev pub AreUnwanted : Table → ℕ → List Unwanted → Type 0
AreUnwanted table places us = All (λ u. All (IsDemand table) u.demands.items × (length u.demands.items ≡ places)) us

module _ (env : List AtomDef) where
  -- a part or none for each place
  pub record IsIn (places : List Place) (parts : List (Option Shape)) : Type 0 where
    pub length : length parts ≡ length places
    pub each : (k : ℕ) (p : Place) (x : Option Shape) → slice_get places k ≡ Some p → slice_get parts k ≡ Some x → IsAt env p x

  -- the atom is avoided at a place
  pub record Avoids (askings : List Asking) (parts : List (Option Shape)) : Type 0 where
    pub place : ℕ
    pub asking : Asking
    pub part : Option Shape
    pub asks : slice_get askings place ≡ Some asking
    pub stands : slice_get parts place ≡ Some part
    pub avoids : AvoidsAt env asking part

  -- one of the parts is a shape of a question that the table holds to be empty
  pub record HasHeldPart (table : Table) (kept : List (ℕ × Option Shape)) (parts : List (Option Shape)) : Type 0 where
    pub place : ℕ
    pub part : Shape
    pub stands : slice_get parts place ≡ Some (Some part)
    pub held : IsInHeld env table kept part

-- the question about the part at a place: what may stand there, without what some of the atoms ask there
pub record AsksPart (places : List Place) (atoms : List (List Asking)) (d : Condition) : Type 0 where
  pub place : ℕ
  pub at : Place
  pub base : Condition
  pub is_at : slice_get places place ≡ Some at
  pub has : condition_at at ≡ Some base
  pub left : List Condition
  pub among : All (λ c. Any (λ askings. (a : Asking) × (slice_get askings place ≡ Some a) × (c ≡ a.part)) atoms) left
  pub asked : AreOne d (asks (base ∷ []) left)

-- what is said of the products that avoid all these atoms
module _ (env : List AtomDef) (table : Table) (kept : List (ℕ × Option Shape)) (places : List Place) (atoms : List (List Asking)) where
  abbrev pub TellsFilling : Filling → Type 0
  TellsFilling (Parts parts) = IsIn env places parts.items × All (λ a. Avoids env a parts.items) atoms
  TellsFilling Empty =
      (parts : List (Option Shape)) → IsIn env places parts → All (λ a. Avoids env a parts) atoms → HasHeldPart env table kept parts
  TellsFilling (Ask q) =
      IsDiagram table q × IsUnknown kept q × (¬ IsNothing (condition table q)) × AsksPart places atoms (condition table q)

-- ---- one step

-- the slots where an atom is avoided at one place, by having no part there or by having another one
module _ (table : Table) (kept : List (ℕ × Option Shape)) (places : List Place) (askings : List Asking) (place : ℕ) (absent : Bool) where
  -- what stands at the place, and what is asked there
  pub record IsAtPlace (p : Place) (a : Asking) : Type 0 where
    pub is_place : slice_get places place ≡ Some p
    pub is_asking : slice_get askings place ≡ Some a

  -- as before, but for that place, which is narrower
  pub record AreNarrower (next : List Slot) : Type 0 where
    pub slots : AreSlots table next
    pub at : Place
    pub asking : Asking
    pub narrower : Place
    pub stands : IsAtPlace at asking
    pub narrows : IsNarrower at asking absent narrower
    pub others : places_of table next ≡ slice_set places place narrower

  pub record HasNoNext : Type 0 where
    pub at : Place
    pub asking : Asking
    pub stands : IsAtPlace at asking
    pub void : IsVoidAt table kept at asking absent

  pub record AsksNext (d : Condition) : Type 0 where
    pub at : Place
    pub asking : Asking
    pub base : Condition
    pub stands : IsAtPlace at asking
    pub has : condition_at at ≡ Some base
    pub asked : AreOne d (without base asking.part)

  abbrev pub TellsNext : Next → Type 0
  TellsNext (NextSlots slots) = AreNarrower slots.items
  TellsNext NextNothing = HasNoNext
  TellsNext (NextAsk q) = IsDiagram table q × IsUnknown kept q × (¬ IsNothing (condition table q)) × AsksNext (condition table q)

-- what the table has for a place
abbrev pub TellsKept : List AtomDef → Table → List (ℕ × Option Shape) → Place → Kept → Type 0
TellsKept env table kept p (KeptPart x) = IsAt env p x
TellsKept env table kept p KeptVoid =
    (x : Option Shape) → IsAt env p x → (part : Shape) × (x ≡ Some part) × IsInHeld env table kept part
TellsKept env table kept p (KeptUnknown q) =
    IsDiagram table q × IsUnknown kept q × (¬ IsNothing (condition table q))
    × ((base : Condition) × (condition_at p ≡ Some base) × AreOne (condition table q) base)
