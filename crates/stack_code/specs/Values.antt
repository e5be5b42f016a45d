-- Values that fit types, and what holds of the heap and of the module variables, in each state that well-typed code reaches.
use Rattle.std.specs.Prelude.{◌≡◌, ◌≢◌, ◌<◌, ◌^◌, ℕ, List, [], ◌∷◌, Option, Some, None, IsSomeAnd, IsTrue, All, map, reverse, slice_get, ⊤}
use Rattle.std.specs.List.{AllZip}
use Rattle.bal_base.specs.declared.shape.Shape.{Shape}
use Rattle.bal_base.specs.declared.text.Text.{Text}
use Rattle.bal_base.specs.Valid.{IsValid}
use Rattle.type_model.specs.declared.basic.SemType.{SemType, Atom}
use Rattle.type_model.specs.Membership.{In}
use Rattle.value_model.specs.declared.value.Value.{Value}
use Rattle.value_model.specs.declared.value.Value.TheVariants.{Nil, Bool as Truth, Int, Str, Struct, Error, Function, Future}
use Rattle.value_model.specs.Heap.{Entries, FunctionObject, IsClosed, IsThere, Items, Members, Structure, entry_at, values_of}
use Rattle.value_model.specs.Meaning.{HasShapes}
use Rattle.value_model.specs.Stands.{OwnTypes, Belongs, IsUnmarked, MembersBelong}
use Rattle.value_model.specs.Valid.{IsValidHeap, IsValidValue}
use Rattle.op_model.specs.Common.{Common}
use Rattle.op_model.specs.Rows.{size_of}
use Rattle.op_model.specs.Strands.{is_error}
use Rattle.stack_code.specs.declared.code.Code.{Code}
use Rattle.stack_code.specs.Tables.{IsCallable, IsInherent, UnitAt}

-- the types that values have of their own
abbrev pub code_types : Code → OwnTypes
code_types code = record { atoms = code.atoms; units = map (λ u. (u.arrow, u.future)) code.units }

-- ---- keys

-- no key of a mapping comes twice
abbrev pub ComeOnce : List (Text × Value) → Type 0
ComeOnce [] = ⊤
ComeOnce (e ∷ es) = (entry_at es e.0 ≡ None) × ComeOnce es

abbrev pub AreKeysApart : Members → Type 0
AreKeysApart (Items vs) = ⊤
AreKeysApart (Entries es) = ComeOnce es

module _ (code : Code) (c : Common) where
  -- ---- values

  -- a future is that of a strand that was made for its unit by a `start`: it is no worker's, and not strand 0
  abbrev pub IsStarted : ℕ → ℕ → Type 0
  IsStarted n unit =
      (n ≢ 0) × IsSomeAnd (slice_get c.strands n) (λ s. (s.unit ≡ unit) × (s.role ≡ None)) × IsCallable code unit

  abbrev pub IsOfStrand : Value → Type 0
  IsOfStrand (Future n unit) = IsStarted n unit
  IsOfStrand Nil = ⊤
  IsOfStrand (Truth b) = ⊤
  IsOfStrand (Int i) = ⊤
  IsOfStrand (Str t) = ⊤
  IsOfStrand (Struct n) = ⊤
  IsOfStrand (Error n) = ⊤
  IsOfStrand (Function n) = ⊤

  -- what the value names was made, and it is valid
  abbrev pub IsMade : Value → Type 0
  IsMade v = IsThere c.world.heap v × IsValidValue v × IsOfStrand v

  -- an error that was made
  abbrev pub IsMadeError : Value → Type 0
  IsMadeError v = IsTrue (is_error v) × IsMade v

  -- the value was made, in a heap where all is there, and belongs to the type
  abbrev pub Fits : Value → SemType → Type 0
  Fits v t = IsClosed c.world.heap × IsMade v × Belongs (code_types code) c.world.heap v t

  abbrev pub AllFit : List Value → List SemType → Type 0
  AllFit vs ts = AllZip Fits vs ts

  -- operands, the last one first, fit a map's types, the first one first
  abbrev pub StackFits : List Value → List SemType → Type 0
  StackFits stack ts = AllFit (reverse stack) ts

  -- what was stored fits its type
  abbrev pub HeldFits : Option Value → SemType → Type 0
  HeldFits held t = (v : Value) → held ≡ Some v → Fits v t

  -- ---- the heap

  -- a mutable structure has an inherent atom with an unmarked shape, and its members are those of the atom
  abbrev pub IsWithinAtom : Structure → Type 0
  IsWithinAtom s = IsTrue s.mutable → IsSomeAnd s.atom (λ a.
      IsInherent code a × ((x : Shape) × IsValid x × IsUnmarked x × In code.atoms x (Atom a))
      × IsSomeAnd (slice_get code.atoms a) (MembersBelong (code_types code) c.world.heap s.members))

  -- a function is of a unit that can be called, and holds what the unit captures
  abbrev pub IsWithinUnit : FunctionObject → Type 0
  IsWithinUnit f = IsCallable code f.unit × UnitAt code f.unit (λ u. AllFit f.captured u.captured)

  pub record GoodHeap : Type 0 where
    pub mutable : All IsWithinAtom c.world.heap.structures
    -- immutable structures and errors hold only immutable anydata, and have no cycle
    pub immutable : HasShapes c.world.heap
    pub members : All (λ s. All IsMade (values_of s.members)) c.world.heap.structures
    pub functions : All IsWithinUnit c.world.heap.functions
    -- ints are in range, and keys, strings and messages are texts
    pub valid : IsValidHeap c.world.heap
    -- all that is named is there
    pub closed : IsClosed c.world.heap
    -- lists and mappings have no more members than shapes may have
    pub short : All (λ s. size_of s.members < 2 ^ 63) c.world.heap.structures
    -- mappings have their keys once
    pub apart : All (λ s. AreKeysApart s.members) c.world.heap.structures

  -- ---- module variables

  abbrev pub GoodVariables : Type 0
  GoodVariables = AllZip HeldFits c.variables code.variables
