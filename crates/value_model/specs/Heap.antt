-- The heap: structures, errors and function values, each of the three numbered by itself in the order of making.
use Rattle.std.specs.Prelude.{◌≡◌, ◌+◌, ◌<◌, ℕ, Bool, List, [], ◌∷◌, ◌++◌, Option, Some, None, IfSome, IsSomeAnd, IsFalse, All, ⊤, map, length, slice_get, sum_by, if◌then◌else◌}
use Rattle.bal_base.specs.declared.text.Text.{Text}
use Rattle.type_model.specs.Places.{is_same_text}
use Rattle.value_model.specs.declared.value.Value.{Value}
use Rattle.value_model.specs.declared.value.Value.TheVariants.{Nil, Bool as Truth, Int, Str, Struct, Error, Function, Future}

-- the items of a list, or the entries of a mapping in the order in which their keys came
pub data Members : Type 0 where
  Items : List Value → Members
  Entries : List (Text × Value) → Members

pub record Structure : Type 0 where
  -- the inherent atom, which the detail of an error doesn't have
  pub atom : Option ℕ
  pub mutable : Bool
  pub members : Members
  -- the most items or keys that it has had so far
  pub greatest : ℕ

pub record ErrorObject : Type 0 where
  pub message : Text
  -- the number of the error that caused it
  pub cause : Option ℕ
  -- the number of the mapping that is its detail
  pub detail : ℕ

pub record FunctionObject : Type 0 where
  pub unit : ℕ
  pub captured : List Value

pub record Heap : Type 0 where
  pub structures : List Structure
  pub errors : List ErrorObject
  pub functions : List FunctionObject

abbrev pub no_heap : Heap
no_heap = record { structures = []; errors = []; functions = [] }

abbrev pub values_of : Members → List Value
values_of (Items vs) = vs
values_of (Entries es) = map (λ e. e.1) es

-- the value at a key
abbrev pub entry_at : List (Text × Value) → Text → Option Value
entry_at [] key = None
entry_at (e ∷ es) key = if is_same_text e.0 key then Some e.1 else entry_at es key

-- ---- cells

-- a list or mapping takes a cell, and one for each of the most items or keys that it has had; an error takes one beside
-- its detail; a function value takes one, and one for each captured value
abbrev pub cells : Heap → ℕ
cells h =
    sum_by (λ s. s.greatest + 1) h.structures + length h.errors + sum_by (λ f. length f.captured + 1) h.functions

-- ---- what is there

-- what the value names is in the heap
abbrev pub IsThere : Heap → Value → Type 0
IsThere h Nil = ⊤
IsThere h (Truth b) = ⊤
IsThere h (Int i) = ⊤
IsThere h (Str t) = ⊤
IsThere h (Struct n) = n < length h.structures
IsThere h (Error n) = n < length h.errors
IsThere h (Function n) = n < length h.functions
IsThere h (Future strand unit) = ⊤

-- and so is all that its parts name
pub record IsClosed (h : Heap) : Type 0 where
  pub members : All (λ s. All (IsThere h) (values_of s.members)) h.structures
  pub details : All (λ e. e.detail < length h.structures) h.errors
  pub causes : All (λ e. IfSome e.cause (λ n. n < length h.errors)) h.errors
  pub captured : All (λ f. All (IsThere h) f.captured) h.functions

-- ---- how a heap grows

-- both are lists, or both are mappings
abbrev pub AreAlike : Members → Members → Type 0
AreAlike (Items vs) (Items ws) = ⊤
AreAlike (Items vs) (Entries ds) = ⊥
AreAlike (Entries es) (Items ws) = ⊥
AreAlike (Entries es) (Entries ds) = ⊤

-- a structure stays what it was: its kind, its atom and whether it is mutable, and all of it where it is immutable
pub record Stays (s t : Structure) : Type 0 where
  pub kind : AreAlike s.members t.members
  pub atom : t.atom ≡ s.atom
  pub mutable : t.mutable ≡ s.mutable
  pub frozen : IsFalse s.mutable → t ≡ s

abbrev pub Begins : {A : Type 0} → List A → List A → Type 0
Begins {A} front all = (rest : List A) × (all ≡ front ++ rest)

-- the heap later on: what was there is there by its number and stays what it was
pub record Grows (old new : Heap) : Type 0 where
  pub structures : (n : ℕ) (s : Structure) → slice_get old.structures n ≡ Some s → IsSomeAnd (slice_get new.structures n) (Stays s)
  pub errors : Begins old.errors new.errors
  pub functions : Begins old.functions new.functions
