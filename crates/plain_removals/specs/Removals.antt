-- What removals come to, and when that is not told.
use Rattle.std.specs.Prelude.{◌≡◌, ◌<◌, ℕ, ℤ, List, [], ◌∷◌, Option, Some, None, IsTrue, length, remove, slice_get}
use Rattle.bal_base.specs.declared.text.Text.{Text}
use Rattle.value_model.specs.declared.panics.PanicName.TheVariants.{InherentTypeViolation}
use Rattle.value_model.specs.declared.value.Value.{Value}
use Rattle.value_model.specs.declared.value.Value.TheVariants.{Int, Str, Struct}
use Rattle.value_model.specs.Heap.{Structure, Members, Items, Entries, entry_at}
use Rattle.value_model.specs.World as model
use Rattle.op_model.specs.ProgramFacts.{own_types}
use Rattle.op_model.specs.Library.{RemovesAt, RemovesKey, last_place}
use Rattle.op_model.specs.Rows.{HasEntries, HasItems, ListAt, MappingAt, gives, panics, place_of}
use Rattle.op_model.specs.Stores.{remove_entry, stored}
use Rattle.plain_run.specs.declared.facts.ProgramFacts.{ProgramFacts}
use Rattle.plain_run.specs.declared.held.Heap.{Heap}
use Rattle.plain_run.specs.declared.held.World.{World}
use Rattle.plain_run.specs.Came.{came_of}
use Rattle.plain_run.specs.ProgramFacts.{facts_of}
use Rattle.plain_run.specs.Held.{heap_of, members_of, world_of}
use Rattle.plain_structures.specs.declared.answer.Tried.{Tried}
use Rattle.plain_structures.specs.declared.answer.Tried.TheVariants as tried
use Rattle.plain_structures.specs.Lookups.{entries_at, entries_in, items_at, items_in}
use Rattle.plain_removals.specs.declared.place.Place.{Place}
use Rattle.plain_removals.specs.declared.place.Place.TheVariants.{Last, At}
use Rattle.plain_removals.specs.declared.removal.Removal.{Removal}
use Rattle.plain_removals.specs.declared.removal.Removal.TheVariants.{Panics, Leaves, Undecided}
use Rattle.plain_removals.specs.Members.{AllBelongIf, AreBeyondIf}

-- ---- places

-- the place of a list with these items, where it is one
abbrev pub place_in : Place → List Value → Option ℕ
place_in Last vs = last_place vs
place_in (At i) vs = place_of i

-- ---- when it is not told

-- whether what is left is allowed by the inherent type is not told
abbrev pub IsStillBeyond : ProgramFacts → Heap → Structure → Members → Type 0
IsStillBeyond facts h s m = AreBeyondIf facts h m s.atom

-- the list is mutable and the place is there, and it is not told whether the other items may be left
abbrev pub IsPlaceBeyond : ProgramFacts → Heap → Structure → List Value → Option ℕ → Type 0
IsPlaceBeyond facts h s vs None = ⊥
IsPlaceBeyond facts h s vs (Some k) = (k < length vs) × IsTrue s.mutable × IsStillBeyond facts h s (Items (remove vs k))

-- the mapping is mutable and the key is there, and it is not told whether the other entries may be left
abbrev pub IsKeyBeyond : ProgramFacts → Heap → Structure → List (Text × Value) → Text → Option Value → Type 0
IsKeyBeyond facts h s es key None = ⊥
IsKeyBeyond facts h s es key (Some v) = IsTrue s.mutable × IsStillBeyond facts h s (Entries (remove_entry es key))

-- the structure with the number is such a list, or such a mapping
abbrev pub IsItemBeyond : ProgramFacts → World → ℕ → Place → Type 0
IsItemBeyond facts w n place = ListAt (world_of w) n (λ s vs. IsPlaceBeyond facts w.heap s vs (place_in place vs))

abbrev pub IsEntryBeyond : ProgramFacts → World → ℕ → Text → Type 0
IsEntryBeyond facts w n key = MappingAt (world_of w) n (λ s es. IsKeyBeyond facts w.heap s es key (entry_at es key))

-- of `pop`, of `remove` of an item and of `remove` of a key, on these operands
abbrev pub IsPopBeyond : ProgramFacts → World → List Value → Type 0
IsPopBeyond facts w vs = (n : ℕ) × (vs ≡ Struct n ∷ []) × IsItemBeyond facts w n Last

abbrev pub IsRemoveItemBeyond : ProgramFacts → World → List Value → Type 0
IsRemoveItemBeyond facts w vs = (n : ℕ) × (i : ℤ) × (vs ≡ Struct n ∷ Int i ∷ []) × IsItemBeyond facts w n (At i)

abbrev pub IsRemoveKeyBeyond : ProgramFacts → World → List Value → Type 0
IsRemoveKeyBeyond facts w vs = (n : ℕ) × (key : Text) × (vs ≡ Struct n ∷ Str key ∷ []) × IsEntryBeyond facts w n key

-- ---- what a removal comes to, before it is done

module _ (facts : ProgramFacts) (h : Heap) where
  -- the members may be left and the value is given, or they may not
  abbrev pub IsAllowed : Option ℕ → Members → Value → Removal → Type 0
  IsAllowed atom m v (Panics name) = (name ≡ InherentTypeViolation) × ¬ (AllBelongIf facts h m atom)
  IsAllowed atom m v (Leaves left given) = (members_of left ≡ m) × (given ≡ v) × AllBelongIf facts h m atom
  IsAllowed atom m v Undecided = AreBeyondIf facts h m atom

  -- in each world with this heap, where the structure has such a number, the row says so; or that is not told
  abbrev pub IsRemoval : Structure → (model.World → ℕ → model.Came → Type 0) → Type 0 → Removal → Type 0
  IsRemoval s row cause (Panics name) = (w : model.World) (n : ℕ) → w.heap ≡ heap_of h → row w n (panics w name)
  IsRemoval s row cause (Leaves left given) =
      (w : model.World) (n : ℕ) → w.heap ≡ heap_of h → row w n (gives (stored w n s (members_of left) []) given)
  IsRemoval s row cause Undecided = cause

  abbrev pub IsItemRemoval : Structure → List Value → Option ℕ → Removal → Type 0
  IsItemRemoval s vs place removal =
      IsRemoval s (λ w n. RemovesAt (own_types (facts_of facts)) w n s vs place) (IsPlaceBeyond facts h s vs place) removal

  abbrev pub IsKeyRemoval : Structure → List (Text × Value) → Text → Removal → Type 0
  IsKeyRemoval s es key removal =
      IsRemoval s (λ w n. RemovesKey (own_types (facts_of facts)) w n s es key (entry_at es key)) (IsKeyBeyond facts h s es key (entry_at es key)) removal

  -- the same of a structure, where it is a list, or a mapping
  abbrev pub IsRemovalFrom : Structure → Place → Option Removal → Type 0
  IsRemovalFrom s place (Some removal) = HasItems (λ vs. IsItemRemoval s vs (place_in place vs) removal) s.members
  IsRemovalFrom s place None = items_in s.members ≡ None

  abbrev pub IsKeyRemovalFrom : Structure → Text → Option Removal → Type 0
  IsKeyRemovalFrom s key (Some removal) = HasEntries (λ es. IsKeyRemoval s es key removal) s.members
  IsKeyRemovalFrom s key None = entries_in s.members ≡ None

  -- the same of the structure with the number
  abbrev pub IsListRemoval : ℕ → Place → Option Removal → Type 0
  IsListRemoval n place (Some removal) =
      (s : Structure) × (slice_get (heap_of h).structures n ≡ Some s) × IsRemovalFrom s place (Some removal)
  IsListRemoval n place None = items_at (heap_of h) n ≡ None

  abbrev pub IsMappingRemoval : ℕ → Text → Option Removal → Type 0
  IsMappingRemoval n key (Some removal) =
      (s : Structure) × (slice_get (heap_of h).structures n ≡ Some s) × IsKeyRemovalFrom s key (Some removal)
  IsMappingRemoval n key None = entries_at (heap_of h) n ≡ None

-- ---- what was done

-- this came
abbrev pub HasCome : World → Tried → model.Came → Type 0
HasCome new (tried.Came came) is = came_of came new ≡ is
HasCome new tried.Stuck is = ⊥
HasCome new tried.Undecided is = ⊥

-- the removal from the structure with the number was done, or it is not told
abbrev pub IsDone : model.World → ℕ → Structure → Removal → World → Tried → Type 0
IsDone old n s (Panics name) new done = HasCome new done (panics old name)
IsDone old n s (Leaves left given) new done = HasCome new done (gives (stored old n s (members_of left) []) given)
IsDone old n s Undecided new done = done ≡ tried.Undecided

-- ---- the rows

abbrev pub RemovesItem : ProgramFacts → model.World → ℕ → Place → model.Came → Type 0
RemovesItem facts w n place came =
    ListAt w n (λ s vs. RemovesAt (own_types (facts_of facts)) w n s vs (place_in place vs) came)

abbrev pub RemovesEntry : ProgramFacts → model.World → ℕ → Text → model.Came → Type 0
RemovesEntry facts w n key came =
    MappingAt w n (λ s es. RemovesKey (own_types (facts_of facts)) w n s es key (entry_at es key) came)
