-- The tests of a store, before anything is changed.
use Rattle.std.specs.Prelude.{◌≡◌, ◌↔◌, ◌-◌, ◌<◌, ℕ, Bool, List, [], Option, Some, None, All, IsTrue, option_and_then}
use Rattle.bal_base.specs.declared.text.Text.{Text}
use Rattle.type_model.specs.declared.basic.Ty.{Ty}
use Rattle.value_model.specs.declared.filler.Filler.{Filler}
use Rattle.value_model.specs.declared.panics.PanicName.TheVariants.{InherentTypeViolation, NoFillerValue, TooLong}
use Rattle.value_model.specs.declared.value.Value.{Value}
use Rattle.value_model.specs.Heap.{Entries, Structure}
use Rattle.value_model.specs.Stands.{BelongsIf}
use Rattle.value_model.specs.World as model
use Rattle.op_model.specs.ProgramFacts.{own_types}
use Rattle.op_model.specs.Fillers.{IsThereFiller, fillers_from}
use Rattle.op_model.specs.Limits.{most_items}
use Rattle.op_model.specs.Rows.{Else, HasEntries, HasItems, StructureAt, Unless, gives_nothing, panics, within}
use Rattle.op_model.specs.Stores.{StoresAt, StoresKey, atom_of, fillers_of, item_stored, set_entry, stored, type_at_key, type_at_place}
use Rattle.plain_run.specs.declared.facts.ProgramFacts.{ProgramFacts}
use Rattle.plain_run.specs.declared.held.Heap.{Heap}
use Rattle.plain_run.specs.declared.held.World.{World}
use Rattle.plain_run.specs.ProgramFacts.{facts_of}
use Rattle.plain_run.specs.Held.{heap_of, world_of}
use Rattle.plain_tests.specs.Tells.{IsBeyondIf}
use Rattle.store_tests.specs.declared.tests.Test.{Test}
use Rattle.store_tests.specs.declared.tests.Test.TheVariants.{Absent, Panics, Undecided, Passed}
use Rattle.store_tests.specs.Questions.{KeyIsBeyond, PlaceIsBeyond}

-- the structure is mutable, and the value belongs to the type, which is there
abbrev pub MayHold : ProgramFacts → Heap → Bool → Option Ty → Value → Type 0
MayHold facts h mutable t v = IsTrue mutable × BelongsIf (own_types (facts_of facts)) (heap_of h) v t

-- whether it may be stored there
abbrev pub TellsHold : ProgramFacts → Heap → Bool → Option Ty → Value → Option Bool → Type 0
TellsHold facts h mutable t v (Some holds) = IsTrue holds ↔ MayHold facts h mutable t v
TellsHold facts h mutable t v None = IsTrue mutable × IsBeyondIf facts h v t

-- what the tests say of a row: it says nothing, or this panic comes, or a question isn't told; or what comes where all
-- tests are passed is what the row says
abbrev pub IsTested : (model.Came → Type 0) → (model.Came → Type 0) → model.World → Type 0 → Test → Type 0
IsTested row passed w cause Absent = (came : model.Came) → ¬ (row came)
IsTested row passed w cause (Panics name) = row (panics w name)
IsTested row passed w cause Undecided = cause
IsTested row passed w cause Passed = (came : model.Came) → passed came → row came

-- the tests of a gap, and what comes where they are passed
abbrev pub GapRow : model.World → List Filler → ℕ → ℕ → model.Came → model.Came → Type 0
GapRow w fs size k final =
    Unless (k < most_items) (panics w TooLong)
    (Unless (All IsThereFiller (fillers_from fs size (k - size))) (panics w NoFillerValue)
    (Else final))

-- the tests of what a structure may hold, and what comes behind them
abbrev pub HoldRow : ProgramFacts → World → Structure → Option Ty → Value → (model.Came → Type 0) → model.Came → Type 0
HoldRow facts w s t v behind =
    Unless (IsTrue s.mutable) (panics (world_of w) InherentTypeViolation)
    (Unless (BelongsIf (own_types (facts_of facts)) (heap_of w.heap) v t) (panics (world_of w) InherentTypeViolation)
    behind)

-- the tests at a place of a list of so many items
abbrev pub PlaceRow : ProgramFacts → World → Structure → ℕ → ℕ → Value → model.Came → model.Came → Type 0
PlaceRow facts w s size k v final =
    HoldRow facts w s (option_and_then (type_at_place k) (atom_of (own_types (facts_of facts)) s)) v
    (GapRow (world_of w) (fillers_of (own_types (facts_of facts)) (facts_of facts).fillers s) size k final)

-- the tests at a key of a mapping
abbrev pub KeyRow : ProgramFacts → World → Structure → Text → Value → model.Came → model.Came → Type 0
KeyRow facts w s key v final =
    HoldRow facts w s (option_and_then (type_at_key key) (atom_of (own_types (facts_of facts)) s)) v (Else final)

-- ---- of a structure that may be a list: a store at a place, what comes where its tests are passed, and where they aren't told

module _ (facts : ProgramFacts) (w : World) (n : ℕ) (s : Structure) (k : ℕ) (v : Value) where
  abbrev pub ListRow : model.Came → Type 0
  ListRow came = HasItems (λ vs. StoresAt (own_types (facts_of facts)) (facts_of facts).fillers (world_of w) n s vs (Some k) v came) s.members

  abbrev pub ListComes : model.Came → Type 0
  ListComes came =
      HasItems (λ vs. came ≡ within (gives_nothing (item_stored (own_types (facts_of facts)) (facts_of facts).fillers (world_of w) n s vs k v))) s.members

abbrev pub ListIsBeyond : ProgramFacts → World → Structure → ℕ → Value → Type 0
ListIsBeyond facts w s k v = HasItems (λ vs. PlaceIsBeyond facts w s (Some k) v) s.members

-- ---- of a structure that may be a mapping: the same at a key

abbrev pub MappingRow : ProgramFacts → World → ℕ → Structure → Text → Value → model.Came → Type 0
MappingRow facts w n s key v came =
    HasEntries (λ es. StoresKey (own_types (facts_of facts)) (facts_of facts).fillers (world_of w) n s es key v came) s.members

abbrev pub MappingComes : World → ℕ → Structure → Text → Value → model.Came → Type 0
MappingComes w n s key v came =
    HasEntries (λ es. came ≡ within (gives_nothing (stored (world_of w) n s (Entries (set_entry es key v)) []))) s.members

abbrev pub MappingIsBeyond : ProgramFacts → World → Structure → Text → Value → Type 0
MappingIsBeyond facts w s key v = HasEntries (λ es. KeyIsBeyond facts w s key v) s.members

-- ---- of the structure with a number

abbrev pub StoresItem : ProgramFacts → World → ℕ → ℕ → Value → model.Came → Type 0
StoresItem facts w n k v came = StructureAt (world_of w) n (λ s. ListRow facts w n s k v came)

abbrev pub ItemComes : ProgramFacts → World → ℕ → ℕ → Value → model.Came → Type 0
ItemComes facts w n k v came = StructureAt (world_of w) n (λ s. ListComes facts w n s k v came)

abbrev pub StoresEntry : ProgramFacts → World → ℕ → Text → Value → model.Came → Type 0
StoresEntry facts w n key v came = StructureAt (world_of w) n (λ s. MappingRow facts w n s key v came)

abbrev pub EntryComes : World → ℕ → Text → Value → model.Came → Type 0
EntryComes w n key v came = StructureAt (world_of w) n (λ s. MappingComes w n s key v came)
