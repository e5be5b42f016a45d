-- What a store makes, what room it takes, and how it changes what is held.
use Rattle.std.specs.Prelude.{◌≡◌, ◌+◌, ◌-◌, ℕ, zero, suc, Bool, true, false, List, [], ◌∷◌, Option, Some, None, Vec, ⊤, count_by, is_some, length, map, nat_le, nat_lt, take, if◌then◌else◌}
use Rattle.std.specs.Global.{Global}
use Rattle.std.specs.List.{sum_by}
use Rattle.bal_base.specs.declared.text.Text.{Text}
use Rattle.value_model.specs.declared.filler.Filler.{Filler}
use Rattle.value_model.specs.declared.filler.Filler.TheVariants.{Nothing, Nil as NilFiller, Bool as BoolFiller, Int as IntFiller, Str as StrFiller, List as NewList, Mapping as NewMapping}
use Rattle.value_model.specs.declared.value.Value.{Value}
use Rattle.value_model.specs.Heap.{Entries, Items, Members, Structure, cells, entry_at}
use Rattle.value_model.specs.World.{World}
use Rattle.op_model.specs.ProgramFacts.{own_types}
use Rattle.op_model.specs.Fillers.{filler_structures, filler_values, fillers_from, inner_fillers, new_ones}
use Rattle.op_model.specs.Levels.{all_of, levels}
use Rattle.op_model.specs.Limits.{most_cells}
use Rattle.op_model.specs.Rows.{HasEntries, HasItems, StructureAt, next_structure}
use Rattle.op_model.specs.Stores.{fillers_of, set_entry, set_item, structures_for, with_members}
use Rattle.plain_run.specs.declared.facts.ProgramFacts.{ProgramFacts}
use Rattle.plain_run.specs.declared.held.Structure.{Structure as HeldStructure}
use Rattle.plain_run.specs.Came.{IsLeft}
use Rattle.plain_run.specs.ProgramFacts.{facts_of}
use Rattle.plain_run.specs.Held.{structure_of}
use Rattle.store_tests.specs.Fillers.{fixed_of, is_there}
use Rattle.plain_stores.specs.declared.making.Prepared.{Prepared}
use Rattle.plain_stores.specs.declared.making.Prepared.TheVariants.{Absent, Passes, Makes}
use Rattle.plain_stores.specs.declared.made.Made.{Made}
use Rattle.plain_stores.specs.declared.pushes.End.{End}
use Rattle.plain_structures.specs.declared.answer.Tried.{Tried}
use Rattle.plain_structures.specs.declared.answer.Tried.TheVariants as tries
use Rattle.plain_run.specs.declared.world.Came.{Came}
use Rattle.plain_run.specs.declared.world.Came.TheVariants.{Gave, Threw, PassesCells}

-- ---- structures that are made for fillers

-- the structures that the members of a new one ask for
abbrev pub kids : ProgramFacts → Filler → List Filler
kids facts f = new_ones (inner_fillers (fixed_of facts) f)

-- the cells of the structure that is made for a filler
abbrev pub filler_cells : ProgramFacts → Filler → ℕ
filler_cells facts Nothing = 0
filler_cells facts NilFiller = 0
filler_cells facts (BoolFiller b) = 0
filler_cells facts (IntFiller i) = 0
filler_cells facts (StrFiller t) = 0
filler_cells facts (NewList a) = count_by is_there (fixed_of facts a) + 1
filler_cells facts (NewMapping a) = 1

-- all these are made, level by level, where so much of the room of a heap is left; or it is too small for them
abbrev pub AreMade : ProgramFacts → List Filler → ℕ → Option Made → Type 0
AreMade facts roots depth (Some made) =
    (made.fillers.items ≡ levels all_of (kids facts) roots depth)
    × IsLeft most_cells (sum_by (filler_cells facts) (levels all_of (kids facts) roots depth)) (Some made.left)
AreMade facts roots depth None = IsLeft most_cells (sum_by (filler_cells facts) (levels all_of (kids facts) roots depth)) None

-- ---- what a store at a place of a list makes

-- how many items there are behind it
abbrev pub size_behind : ℕ → ℕ → ℕ → ℕ
size_behind size k gap = if nat_lt k size then size else size + gap + 1

-- how many entries there are behind a store at the key
abbrev pub entries_behind : List (Text × Value) → Text → ℕ
entries_behind es key = if is_some (entry_at es key) then length es else length es + 1

-- the heap has room for a structure that was so great, and gets so many members, and for these structures
abbrev pub has_place : World → ℕ → ℕ → List Structure → Bool
has_place w greatest size more = nat_le (cells w.heap + ((size - greatest) + sum_by (λ s. s.greatest + 1) more)) most_cells

-- the structures that are made for fillers, where those that are made for the members of the first ones are numbered from
-- one on
abbrev pub made_from : ProgramFacts → ℕ → List Filler → List Structure
made_from facts first fs =
    filler_structures (fixed_of facts) first (levels all_of (kids facts) (new_ones fs) (length facts.atoms.now))

-- they are these, and there is room for them and for a structure that grows so; or there is none
abbrev pub AreFor : ProgramFacts → World → ℕ → ℕ → List Filler → ℕ → Option (Vec HeldStructure Global) → Type 0
AreFor facts w greatest size fs first (Some made) =
    (map structure_of made.items ≡ made_from facts first fs) × (has_place w greatest size (made_from facts first fs) ≡ true)
AreFor facts w greatest size fs first None = has_place w greatest size (made_from facts first fs) ≡ false

module _ (facts : ProgramFacts) (w : World) (s : Structure) (size k : ℕ) where
  abbrev pub gap_of : List Filler
  gap_of = fillers_from (fillers_of (own_types (facts_of facts)) (facts_of facts).fillers s) size (k - size)

  abbrev pub made_of : List Structure
  made_of = structures_for (own_types (facts_of facts)) (facts_of facts).fillers w gap_of

  abbrev pub room_of : Bool
  room_of = has_place w s.greatest (size_behind size k (length (filler_values (next_structure w) gap_of))) made_of

  -- this is made, and there is room; or there is none
  abbrev pub IsMaking : Prepared → Type 0
  IsMaking Absent = ⊥
  IsMaking Passes = room_of ≡ false
  IsMaking (Makes making) =
      (making.gap.items ≡ filler_values (next_structure w) gap_of) × (map structure_of making.more.items ≡ made_of) × (room_of ≡ true)

-- the same of a structure that may be a list
abbrev pub ListIsPrepared : ProgramFacts → World → Structure → ℕ → Prepared → Type 0
ListIsPrepared facts w s k Absent = ¬ (HasItems (λ vs. ⊤) s.members)
ListIsPrepared facts w s k Passes = HasItems (λ vs. IsMaking facts w s (length vs) k Passes) s.members
ListIsPrepared facts w s k (Makes making) = HasItems (λ vs. IsMaking facts w s (length vs) k (Makes making)) s.members

-- and of the structure with the number
abbrev pub IsPrepared : ProgramFacts → World → ℕ → ℕ → Prepared → Type 0
IsPrepared facts w n k Absent = ¬ (StructureAt w n (λ s. HasItems (λ vs. ⊤) s.members))
IsPrepared facts w n k Passes = StructureAt w n (λ s. ListIsPrepared facts w s k Passes)
IsPrepared facts w n k (Makes making) = StructureAt w n (λ s. ListIsPrepared facts w s k (Makes making))

-- ---- the room for an entry

-- whether there is room for the entry, where the structure is a mapping
abbrev pub MappingHasRoom : World → Structure → Text → Option Bool → Type 0
MappingHasRoom w s key (Some room) = HasEntries (λ es. has_place w s.greatest (entries_behind es key) [] ≡ room) s.members
MappingHasRoom w s key None = ¬ (HasEntries (λ es. ⊤) s.members)

abbrev pub EntryHasRoom : World → ℕ → Text → Option Bool → Type 0
EntryHasRoom w n key (Some room) = StructureAt w n (λ s. MappingHasRoom w s key (Some room))
EntryHasRoom w n key None = ¬ (StructureAt w n (λ s. HasEntries (λ es. ⊤) s.members))

-- ---- what is changed

-- the member at the place is changed so, where it is there
abbrev pub changed_at : {A : Type 0} → (A → A) → List A → ℕ → List A
changed_at f [] n = []
changed_at f (x ∷ xs) zero = f x ∷ xs
changed_at f (x ∷ xs) (suc n) = x ∷ changed_at f xs n

-- members of a list with the item at the place, behind what fills the gap; those of a mapping stay
abbrev pub with_item : ℕ → List Value → Value → Members → Members
with_item k gap v (Items vs) = Items (set_item vs k gap v)
with_item k gap v (Entries es) = Entries es

abbrev pub with_entry : Text → Value → Members → Members
with_entry key v (Items vs) = Items vs
with_entry key v (Entries es) = Entries (set_entry es key v)

-- the structure with members that are changed so
abbrev pub changed_by : (Members → Members) → Structure → Structure
changed_by f s = with_members s (f s.members)

abbrev pub all_but_last : List Value → List Value
all_but_last vs = take (length vs - 1) vs

-- members of a list without the last item
abbrev pub without_last : Members → Members
without_last (Items vs) = Items (all_but_last vs)
without_last (Entries es) = Entries es

-- the structure without the last item, where it was so great before that item came
abbrev pub taken_back : ℕ → Structure → Structure
taken_back greatest s = record { atom = s.atom; mutable = s.mutable; members = without_last s.members; greatest = greatest }

-- ---- the end of a list

-- the list with the number is so long, and was so great; or there is none
abbrev pub IsEnd : World → ℕ → Option End → Type 0
IsEnd w n (Some end) = StructureAt w n (λ s. HasItems (λ vs. (end.size ≡ length vs) × (end.greatest ≡ s.greatest)) s.members)
IsEnd w n None = ¬ (StructureAt w n (λ s. HasItems (λ vs. ⊤) s.members))

abbrev pub ListIsEnd : Structure → Option End → Type 0
ListIsEnd s (Some end) = HasItems (λ vs. (end.size ≡ length vs) × (end.greatest ≡ s.greatest)) s.members
ListIsEnd s None = ¬ (HasItems (λ vs. ⊤) s.members)

-- whether the number is that of a list
abbrev pub IsListAt : World → ℕ → Bool → Type 0
IsListAt w n true = StructureAt w n (λ s. HasItems (λ vs. ⊤) s.members)
IsListAt w n false = ¬ (StructureAt w n (λ s. HasItems (λ vs. ⊤) s.members))

-- what was tried gave something; or it left all as it was
abbrev pub has_given : Tried → Bool
has_given (tries.Came (Gave v)) = true
has_given (tries.Came (Threw e)) = false
has_given (tries.Came PassesCells) = false
has_given tries.Stuck = false
has_given tries.Undecided = false

abbrev pub is_undone : Tried → Bool
is_undone (tries.Came (Gave v)) = false
is_undone (tries.Came (Threw e)) = false
is_undone (tries.Came PassesCells) = true
is_undone tries.Stuck = true
is_undone tries.Undecided = true

-- as it is tried, what came of a row
abbrev pub tried_of : Option Came → Tried
tried_of (Some came) = tries.Came came
tried_of None = tries.Stuck
