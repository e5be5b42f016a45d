-- Stores into lists and mappings (Ballerina's "Assignment statement", and the inherent types of structures).
use Rattle.std.specs.Prelude.{◌+◌, ◌-◌, ◌++◌, ◌<◌, ℕ, List, [], ◌∷◌, Option, Some, None, All, IsTrue, IsSomeAnd, length, max, nat_lt, slice_get, slice_set, take, if◌then◌else◌, option_and_then}
use Rattle.bal_base.specs.declared.text.Text.{Text}
use Rattle.type_model.specs.declared.basic.Ty.{Ty}
use Rattle.type_model.specs.declared.atoms.AtomDef.{AtomDef}
use Rattle.type_model.specs.declared.atoms.AtomDef.TheVariants.{List as ListAtom, Mapping as MappingAtom, Arrow, Error as ErrorAtom, Future as FutureAtom}
use Rattle.type_model.specs.Places.{is_same_text, item_type, key_type}
use Rattle.value_model.specs.declared.value.Value.{Value}
use Rattle.value_model.specs.declared.filler.Filler.{Filler}
use Rattle.value_model.specs.declared.panics.PanicName.TheVariants.{IndexOutOfRange, InherentTypeViolation, NoFillerValue, TooLong}
use Rattle.value_model.specs.Heap.{Heap, Structure, Members, Items, Entries}
use Rattle.value_model.specs.Stands.{OwnTypes, BelongsIf, MembersBelong}
use Rattle.value_model.specs.World.{World, Came}
use Rattle.op_model.specs.Fillers.{IsThereFiller, fillers_from, filler_values, filler_structures, made_for, new_ones}
use Rattle.op_model.specs.Limits.{most_items}
use Rattle.op_model.specs.Rows.{Unless, Else, gives_nothing, next_structure, panics, size_of, with_structures, within}

-- ---- places of an inherent atom

abbrev pub type_at_place : ℕ → AtomDef → Option Ty
type_at_place k (ListAtom fixed rest) = item_type fixed rest k
type_at_place k (MappingAtom fields rest) = None
type_at_place k (Arrow args outcome alone) = None
type_at_place k (ErrorAtom detail) = None
type_at_place k (FutureAtom outcome) = None

abbrev pub type_at_key : Text → AtomDef → Option Ty
type_at_key key (MappingAtom fields rest) = key_type fields rest key
type_at_key key (ListAtom fixed rest) = None
type_at_key key (Arrow args outcome alone) = None
type_at_key key (ErrorAtom detail) = None
type_at_key key (FutureAtom outcome) = None

-- how many places are fixed
abbrev pub fixed_places : AtomDef → ℕ
fixed_places (ListAtom fixed rest) = length fixed
fixed_places (MappingAtom fields rest) = 0
fixed_places (Arrow args outcome alone) = 0
fixed_places (ErrorAtom detail) = 0
fixed_places (FutureAtom outcome) = 0

abbrev pub atom_of : OwnTypes → Structure → Option AtomDef
atom_of own s = option_and_then (λ a. slice_get own.atoms a) s.atom

-- ---- what a store makes of members

-- the entry with the key gets this value; a new key comes last
abbrev pub set_entry : List (Text × Value) → Text → Value → List (Text × Value)
set_entry [] key v = (key, v) ∷ []
set_entry (e ∷ es) key v = if is_same_text e.0 key then (e.0, v) ∷ es else e ∷ set_entry es key v

abbrev pub remove_entry : List (Text × Value) → Text → List (Text × Value)
remove_entry [] key = []
remove_entry (e ∷ es) key = if is_same_text e.0 key then es else e ∷ remove_entry es key

-- the entries of a list of pairs: of a key that comes again the last value stands, where the key came first
abbrev pub entries_from : List (Text × Value) → List (Text × Value) → List (Text × Value)
entries_from es [] = es
entries_from es (p ∷ ps) = entries_from (set_entry es p.0 p.1) ps

-- the item at the place is this one; past the end it comes behind what fills the gap
abbrev pub set_item : List Value → ℕ → List Value → Value → List Value
set_item vs k gap v = if nat_lt k (length vs) then slice_set vs k v else vs ++ gap ++ v ∷ []

-- the structure has these members from now on
abbrev pub with_members : Structure → Members → Structure
with_members s m = record { atom = s.atom; mutable = s.mutable; members = m; greatest = max s.greatest (size_of m) }

-- the structure with the number has these members, and these structures are made
abbrev pub stored : World → ℕ → Structure → Members → List Structure → World
stored w n s m more = with_structures w (slice_set w.heap.structures n (with_members s m) ++ more)

-- what is left after a removal is allowed by the inherent type
abbrev pub StillFits : OwnTypes → World → Structure → Members → Type 0
StillFits own w s m = IsSomeAnd (atom_of own s) (MembersBelong own w.heap m)

-- `fillers` gives, for an atom of lists, the fillers of its fixed places and then that of its rest
module _ (own : OwnTypes) (fillers : ℕ → List Filler) where
  abbrev pub fillers_of : Structure → List Filler
  fillers_of s = by s.atom
    where
      by : Option ℕ → List Filler
      by (Some a) = fillers a
      by None = []

  -- the fillers of the fixed places of an atom of lists
  abbrev pub fixed_fillers : ℕ → List Filler
  fixed_fillers a = by (slice_get own.atoms a)
    where
      by : Option AtomDef → List Filler
      by (Some d) = take (fixed_places d) (fillers a)
      by None = []

  -- the structures that are made for these fillers
  abbrev pub structures_for : World → List Filler → List Structure
  structures_for w fs =
      filler_structures fixed_fillers (next_structure w + length (new_ones fs)) (made_for fixed_fillers (length own.atoms) fs)

  -- the world after a store of a value at a place of a list
  abbrev pub item_stored : World → ℕ → Structure → List Value → ℕ → Value → World
  item_stored w n s vs k v =
      let fs = fillers_from (fillers_of s) (length vs) (k - length vs) in
      stored w n s (Items (set_item vs k (filler_values (next_structure w) fs) v)) (structures_for w fs)

  -- `l[i] = v`: the tests in their order, and then the store
  abbrev pub StoresAt : World → ℕ → Structure → List Value → Option ℕ → Value → Came → Type 0
  StoresAt w n s vs None v = Else (panics w IndexOutOfRange)
  StoresAt w n s vs (Some k) v =
      Unless (IsTrue s.mutable) (panics w InherentTypeViolation)
      (Unless (BelongsIf own w.heap v (option_and_then (type_at_place k) (atom_of own s))) (panics w InherentTypeViolation)
      (Unless (k < most_items) (panics w TooLong)
      (Unless (All IsThereFiller (fillers_from (fillers_of s) (length vs) (k - length vs))) (panics w NoFillerValue)
      (Else (within (gives_nothing (item_stored w n s vs k v)))))))

  -- `m[k] = v`
  abbrev pub StoresKey : World → ℕ → Structure → List (Text × Value) → Text → Value → Came → Type 0
  StoresKey w n s es key v =
      Unless (IsTrue s.mutable) (panics w InherentTypeViolation)
      (Unless (BelongsIf own w.heap v (option_and_then (type_at_key key) (atom_of own s))) (panics w InherentTypeViolation)
      (Else (within (gives_nothing (stored w n s (Entries (set_entry es key v)) [])))))
