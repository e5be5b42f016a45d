-- The one shape of a simple value, an immutable structure or an error, as it is looked for.
use Rattle.std.specs.Prelude.{◌≡◌, ◌↔◌, ◌+◌, ◌<◌, ℕ, Bool, List, [], Option, Some, None, IsSomeAnd, IfSome, IsTrue, Any, length, option_and_then, option_map, slice_get, if◌then◌else◌}
use Rattle.std.specs.List.{AllZip}
use Rattle.bal_base.specs.declared.text.Text.{Text}
use Rattle.bal_base.specs.declared.shape.Shape.{Shape, Nil as NilShape, Bool as BoolShape, Int as IntShape, Str as StrShape, List', Mapping', Error', Function as FunctionShape, Future', items-the_row-Fields-items-2 as fields_in}
use Rattle.bal_base.specs.Levels.{levels}
use Rattle.bal_base.specs.Valid.{IsFrozen, IsMarkedMapping, IsValid}
use Rattle.type_model.specs.declared.basic.SemType.{SemType}
use Rattle.type_model.specs.declared.atoms.AtomDef.{AtomDef}
use Rattle.type_model.specs.Membership.{In}
use Rattle.empty_product.specs.Keys.{AreInOrder, HasAdded}
use Rattle.value_model.specs.declared.value.Value.{Value}
use Rattle.value_model.specs.declared.value.Value.TheVariants.{Struct, Error}
use Rattle.value_model.specs.Heap.{Heap, Members, Structure, entry_at}
use Rattle.value_model.specs.Stands.{HasShape, HaveShapes, HaveFields, IsList, IsMapping}

-- the members of a structure that is immutable
abbrev pub frozen_in : Structure → Option Members
frozen_in s = if s.mutable then None else Some s.members

abbrev pub frozen_at : Heap → ℕ → Option Members
frozen_at h n = option_and_then frozen_in (slice_get h.structures n)

-- the number of the detail of an error that is there
abbrev pub detail_at : Heap → ℕ → Option ℕ
detail_at h n = option_map (λ e. e.detail) (slice_get h.errors n)

abbrev pub IsNamed : Text → Text × Value → Type 0
IsNamed key e = e.0 ≡ key

-- keys in order, which are those of the entries
abbrev pub AreKeysOf : List (Text × Value) → List Text → Type 0
AreKeysOf es keys = AreInOrder keys × HasAdded (λ key. Any (IsNamed key) es) [] keys

-- the number of an error, where the value is one
abbrev pub IsErrorNumber : Value → Option ℕ → Type 0
IsErrorNumber v (Some n) = v ≡ Error n
IsErrorNumber v None = (n : ℕ) → ¬ (v ≡ Error n)

-- an error shape with this detail, where a shape may have it
abbrev pub IsErrorOf : Shape → Shape → Type 0
IsErrorOf detail NilShape = ⊥
IsErrorOf detail (BoolShape b) = ⊥
IsErrorOf detail (IntShape i) = ⊥
IsErrorOf detail (StrShape t) = ⊥
IsErrorOf detail (List' mark _ items) = ⊥
IsErrorOf detail (Mapping' mark _ fields) = ⊥
IsErrorOf detail (Error' _ x) = x ≡ detail
IsErrorOf detail (FunctionShape isolated graph) = ⊥
IsErrorOf detail (Future' _ results) = ⊥

abbrev pub IsWithDetail : Shape → Option Shape → Type 0
IsWithDetail detail (Some x) = IsMarkedMapping detail × IsErrorOf detail x
IsWithDetail detail None = ¬ IsMarkedMapping detail

module _ (h : Heap) where
  -- ---- shapes that may stand in marked lists and mappings, with so many levels at most

  abbrev pub IsInner : Value → Shape → Type 0
  IsInner v x = IsValid x × IsFrozen x × HasShape h x v

  -- the value has none
  abbrev pub HasNone : ℕ → Value → Type 0
  HasNone most v = (x : Shape) → IsInner v x → most < levels x

  abbrev pub Finds : ℕ → Value → Option Shape → Type 0
  Finds most v (Some x) = IsInner v x
  Finds most v None = HasNone most v

  -- those of all values, or one of the values has none
  abbrev pub FindsEach : ℕ → List Value → Option (List Shape) → Type 0
  FindsEach most vs (Some xs) = AllZip IsInner vs xs
  FindsEach most vs None = Any (HasNone most) vs

  -- that of the value at a key
  abbrev pub FindsAt : ℕ → List (Text × Value) → Text → Option Shape → Type 0
  FindsAt most es key (Some x) = IsSomeAnd (entry_at es key) (λ v. IsInner v x)
  FindsAt most es key None = IfSome (entry_at es key) (HasNone most)

  -- a field of the entries
  abbrev pub IsField : List (Text × Value) → Text → Text × Shape → Type 0
  IsField es key f = (f.0 ≡ key) × IsSomeAnd (entry_at es key) (λ v. IsInner v f.1)

  -- those at all keys, or at one of the keys there is none
  abbrev pub FindsFields : ℕ → List (Text × Value) → List Text → Option (List (Text × Shape)) → Type 0
  FindsFields most es keys (Some fields) = AllZip (IsField es) keys fields
  FindsFields most es keys None = Any (λ key. IfSome (entry_at es key) (HasNone most)) keys

  -- ---- the shape of a structure by its members

  abbrev pub IsHeld : Members → Shape → Type 0
  IsHeld m NilShape = ⊥
  IsHeld m (BoolShape b) = ⊥
  IsHeld m (IntShape i) = ⊥
  IsHeld m (StrShape t) = ⊥
  IsHeld m (List' mark _ items) = IsTrue mark × IsList h (HaveShapes h items) m
  IsHeld m (Mapping' mark _ fields) = IsTrue mark × IsMapping h (λ es. (length es ≡ length (fields_in _ fields)) × HaveFields h fields es) m
  IsHeld m (Error' _ detail) = ⊥
  IsHeld m (FunctionShape isolated graph) = ⊥
  IsHeld m (Future' _ results) = ⊥

  -- one with one level more than its members may have
  abbrev pub FindsHeld : ℕ → Members → Option Shape → Type 0
  FindsHeld most m (Some x) = IsValid x × IsFrozen x × IsHeld m x
  FindsHeld most m None = (x : Shape) → IsValid x → IsFrozen x → IsHeld m x → most + 1 < levels x

  -- ---- the shape of an error by the number of its detail

  abbrev pub IsOfDetail : ℕ → Shape → Type 0
  IsOfDetail detail NilShape = ⊥
  IsOfDetail detail (BoolShape b) = ⊥
  IsOfDetail detail (IntShape i) = ⊥
  IsOfDetail detail (StrShape t) = ⊥
  IsOfDetail detail (List' mark _ items) = ⊥
  IsOfDetail detail (Mapping' mark _ fields) = ⊥
  IsOfDetail detail (Error' _ x) = HasShape h x (Struct detail)
  IsOfDetail detail (FunctionShape isolated graph) = ⊥
  IsOfDetail detail (Future' _ results) = ⊥

  abbrev pub FindsError : ℕ → Option Shape → Type 0
  FindsError detail (Some x) = IsValid x × IsOfDetail detail x
  FindsError detail None = (x : Shape) → IsValid x → ¬ IsOfDetail detail x

  -- ---- the shape of a value

  -- a shape of the value, or none where it has none
  abbrev pub FindsShape : Value → Option Shape → Type 0
  FindsShape v (Some x) = IsValid x × HasShape h x v
  FindsShape v None = (x : Shape) → IsValid x → ¬ HasShape h x v

  -- whether all shapes of the value, of which it has one at most, are in the type
  abbrev pub TellsOne : List AtomDef → Value → SemType → Bool → Type 0
  TellsOne atoms v t holds = IsTrue holds ↔ ((x : Shape) → IsValid x → HasShape h x v → In atoms x t)
