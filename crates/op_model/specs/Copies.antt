-- Copies of values: `clone`, `cloneReadOnly`, and what is sent to another worker.
use Rattle.std.specs.Prelude.{◌+◌, ◌==◌, ℕ, Bool, true, false, List, [], ◌∷◌, Option, Some, None, filter_map, length, map, option_map, position, slice_get, if◌then◌else◌}
use Rattle.std.specs.List.{list_any}
use Rattle.value_model.specs.declared.value.Value.{Value}
use Rattle.value_model.specs.declared.value.Value.TheVariants.{Nil, Bool as Truth, Int, Str, Struct, Error, Function, Future}
use Rattle.value_model.specs.declared.panics.PanicName.TheVariants.{CyclicValue}
use Rattle.value_model.specs.Heap.{Heap, Structure, Members, Items, Entries, values_of}
use Rattle.value_model.specs.World.{World, Came}
use Rattle.op_model.specs.Levels.{levels, distinct}
use Rattle.op_model.specs.Rows.{gives, makes, new_structure, next_structure, panics, within}

-- ---- what a copy reaches

module _ (h : Heap) where
  -- the number of a mutable structure
  abbrev pub mutable_number : Value → Option ℕ
  mutable_number Nil = None
  mutable_number (Truth b) = None
  mutable_number (Int i) = None
  mutable_number (Str t) = None
  mutable_number (Struct n) = by (slice_get h.structures n)
    where
      by : Option Structure → Option ℕ
      by (Some s) = if s.mutable then Some n else None
      by None = None
  mutable_number (Error n) = None
  mutable_number (Function n) = None
  mutable_number (Future strand unit) = None

  abbrev pub mutable_numbers : List Value → List ℕ
  mutable_numbers vs = filter_map mutable_number vs

  -- the mutable structures among the members of one
  abbrev pub mutable_members : ℕ → List ℕ
  mutable_members n = by (slice_get h.structures n)
    where
      by : Option Structure → List ℕ
      by (Some s) = mutable_numbers (values_of s.members)
      by None = []

  -- the mutable structures that are reached from these, level by level, each where it is reached first
  abbrev pub reached : List ℕ → List ℕ
  reached roots = levels distinct mutable_members roots (length h.structures)

  -- one of these is reached from its own members
  abbrev pub has_cycle : List ℕ → Bool
  has_cycle ns = list_any (λ n. list_any (λ m. m == n) (reached (mutable_members n))) ns

-- ---- the copy

-- `first` is the number of the first structure that is made, and `ns` are the structures that are copied, in order
module _ (first : ℕ) (ns : List ℕ) where
  -- the number of the copy, or of the structure itself where it isn't copied
  abbrev pub copied_number : ℕ → ℕ
  copied_number n = by (position (λ m. m == n) ns)
    where
      by : Option ℕ → ℕ
      by (Some k) = first + k
      by None = n

  abbrev pub copied_value : Value → Value
  copied_value Nil = Nil
  copied_value (Truth b) = Truth b
  copied_value (Int i) = Int i
  copied_value (Str t) = Str t
  copied_value (Struct n) = Struct (copied_number n)
  copied_value (Error n) = Error n
  copied_value (Function n) = Function n
  copied_value (Future strand unit) = Future strand unit

  abbrev pub copied_members : Members → Members
  copied_members (Items vs) = Items (map copied_value vs)
  copied_members (Entries es) = Entries (map (λ e. (e.0, copied_value e.1)) es)

  -- of the same atom, with copies of what it holds
  abbrev pub copied_structure : Bool → Structure → Structure
  copied_structure mutable s = new_structure s.atom mutable (copied_members s.members)

  -- one for each structure that is copied, in order
  abbrev pub copied_structures : Bool → Heap → List Structure
  copied_structures mutable h = filter_map (λ n. option_map (copied_structure mutable) (slice_get h.structures n)) ns

-- the mutable structures that the value reaches, and what the value and the heap are when they have been copied
abbrev pub reached_from : World → Value → List ℕ
reached_from w v = reached w.heap (mutable_numbers w.heap (v ∷ []))

abbrev pub copy_of : World → Value → Value
copy_of w v = copied_value (next_structure w) (reached_from w v) v

abbrev pub with_copies : Bool → World → Value → World
with_copies mutable w v = makes w (copied_structures (next_structure w) (reached_from w v) mutable w.heap)

-- `v.clone()`: each mutable structure that is reached is copied once, and the others are shared
abbrev pub clones : World → Value → Came
clones w v = within (gives (with_copies true w v) (copy_of w v))

-- `v.cloneReadOnly()`: the same, but the copies are immutable, and nothing may contain itself
abbrev pub freezes : World → Value → Came
freezes w v =
    if has_cycle w.heap (reached_from w v) then panics w CyclicValue
    else within (gives (with_copies false w v) (copy_of w v))
