-- Single places of a product: what may stand there, and what an atom asks there.
use Rattle.std.specs.Prelude.{◌≡◌, ◌⊎◌, ⊤, ℕ, List, Contains, Bool, Option, Some, None, IsTrue}
use Rattle.bal_base.specs.declared.shape.Shape.{Shape}
use Rattle.type_model.specs.declared.atoms.AtomDef.{AtomDef}
use Rattle.type_diagrams.specs.Conditions.{Condition, AreOne, Meets, IsShapeOf, IsNothing, without}
use Rattle.type_diagrams.specs.Kept.{IsUnknown, IsHeldEmpty}
use Rattle.type_diagrams.specs.Tables.{Table, IsDiagram, condition}
use Rattle.type_diagrams.specs.declared.finding.Finding.{Finding}
use Rattle.type_diagrams.specs.declared.finding.Finding.TheVariants.{Part as FoundPart, Held as FoundHeld, Unknown as FoundUnknown}
use Rattle.empty_product.specs.declared.slots.Slot.{Slot}
use Rattle.empty_product.specs.declared.slots.Slot.TheVariants.{Optional, Absent, Present}
use Rattle.empty_product.specs.declared.slots.Demand.{Demand}
use Rattle.empty_product.specs.declared.slots.Known.{Known}
use Rattle.empty_product.specs.declared.slots.Known.TheVariants.{Full, Void, Unknown}
use Rattle.empty_product.specs.declared.slots.Narrowed.{Narrowed}
use Rattle.empty_product.specs.declared.slots.Narrowed.TheVariants.{Slot as To, Nothing, Ask}

-- a place may have a part that meets a condition, has none, or has one that meets it
pub data Place : Type 0 where
  MayHave : Condition → Place
  HasNone : Place
  MustHave : Condition → Place

-- an atom asks something of the part at a place, and maybe that there is one
pub record Asking : Type 0 where
  pub part : Condition
  pub required : Bool

abbrev pub place_of : Table → Slot → Place
place_of table (Optional q) = MayHave (condition table q)
place_of table Absent = HasNone
place_of table (Present q) = MustHave (condition table q)

abbrev pub asking_of : Table → Demand → Asking
asking_of table d = record { part = condition table d.question; required = d.required }

-- the numbers are those of diagrams
abbrev pub IsSlot : Table → Slot → Type 0
IsSlot table (Optional q) = IsDiagram table q
IsSlot table Absent = ⊤
IsSlot table (Present q) = IsDiagram table q

abbrev pub IsDemand : Table → Demand → Type 0
IsDemand table d = IsDiagram table d.question

module _ (env : List AtomDef) where
  -- the part, or none, may stand at the place
  abbrev pub IsAt : Place → Option Shape → Type 0
  IsAt (MayHave c) None = ⊤
  IsAt (MayHave c) (Some x) = IsShapeOf env c x
  IsAt HasNone None = ⊤
  IsAt HasNone (Some x) = ⊥
  IsAt (MustHave c) None = ⊥
  IsAt (MustHave c) (Some x) = IsShapeOf env c x

  -- the atom is avoided at the place: by having no part, or by another part
  abbrev pub AvoidsAt : Asking → Option Shape → Type 0
  AvoidsAt a None = IsTrue a.required
  AvoidsAt a (Some x) = ¬ Meets env a.part x

  -- whether there is a part is as a step says
  abbrev pub IsAbsentAs : Bool → Option Shape → Type 0
  IsAbsentAs absent None = IsTrue absent
  IsAbsentAs absent (Some x) = ¬ IsTrue absent

-- ---- what is known of a question

module _ (env : List AtomDef) (table : Table) (kept : List (ℕ × Option Shape)) where
  -- the shape is in a question that the table of questions holds to be empty
  pub record IsInHeld (x : Shape) : Type 0 where
    pub question : ℕ
    pub held : IsHeldEmpty kept question
    pub inside : IsShapeOf env (condition table question) x

  -- a shape of the question; or each of its shapes is in a question that is held to be empty; or the table
  -- doesn't know it, and it is not the question for no shape
  abbrev pub TellsPart : ℕ → Finding → Type 0
  TellsPart q (FoundPart x) = IsShapeOf env (condition table q) x
  TellsPart q FoundHeld = (x : Shape) → IsShapeOf env (condition table q) x → IsInHeld x
  TellsPart q FoundUnknown = IsUnknown kept q × (¬ IsNothing (condition table q))

-- what is known of a question: a shape is kept for it; none is in it, or it is held to be empty; or the table
-- doesn't know it, and it is not the question for no shape
abbrev pub IsKnown : Table → List (ℕ × Option Shape) → ℕ → Known → Type 0
IsKnown table kept q Full = (x : Shape) × Contains kept (q, Some x)
IsKnown table kept q Void = IsHeldEmpty kept q ⊎ IsNothing (condition table q)
IsKnown table kept q Unknown = IsUnknown kept q × (¬ IsNothing (condition table q))

-- ---- narrower places

-- the condition of a place, where it may have a part
abbrev pub condition_at : Place → Option Condition
condition_at (MayHave c) = Some c
condition_at HasNone = None
condition_at (MustHave c) = Some c

-- a place where an atom is avoided too: what may stand there is what might before and avoids the atom, with
-- or without a part
pub record IsNarrower (place : Place) (a : Asking) (absent : Bool) (narrower : Place) : Type 0 where
  pub from : (env : List AtomDef) (x : Option Shape) → IsAt env place x → AvoidsAt env a x → IsAbsentAs env absent x → IsAt env narrower x
  pub to : (env : List AtomDef) (x : Option Shape) → IsAt env narrower x → IsAt env place x × AvoidsAt env a x
  pub same : (c : Condition) → condition_at narrower ≡ Some c → (d : Condition) × (condition_at place ≡ Some d) × AreOne c (without d a.part)

-- nothing that avoids the atom there so may stand at the place, but for parts of questions that are held to
-- be empty
abbrev pub IsVoidAt : Table → List (ℕ × Option Shape) → Place → Asking → Bool → Type 0
IsVoidAt table kept place a absent =
    (env : List AtomDef) (x : Option Shape) → IsAt env place x → AvoidsAt env a x → IsAbsentAs env absent x
    → (part : Shape) × (x ≡ Some part) × IsInHeld env table kept part

abbrev pub TellsNarrowed : Table → List (ℕ × Option Shape) → Place → Asking → Bool → Narrowed → Type 0
TellsNarrowed table kept place a absent (To slot) = IsSlot table slot × IsNarrower place a absent (place_of table slot)
TellsNarrowed table kept place a absent Nothing = IsVoidAt table kept place a absent
TellsNarrowed table kept place a absent (Ask q) =
    IsDiagram table q × IsUnknown kept q × (¬ IsNothing (condition table q))
    × ((d : Condition) × (condition_at place ≡ Some d) × AreOne (condition table q) (without d a.part))
