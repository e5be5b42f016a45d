-- Deep equality: no finite path tells the two values apart (Ballerina's "Equality expression").
use Rattle.std.specs.Prelude.{◌≡◌, ℕ, List, [], ◌∷◌, Option, Some, None, option_and_then, option_map, slice_get}
use Rattle.bal_base.specs.declared.text.Text.{Text}
use Rattle.value_model.specs.declared.value.Value.{Value}
use Rattle.value_model.specs.declared.value.Value.TheVariants.{Nil, Bool as Truth, Int, Str, Struct, Error, Function, Future}
use Rattle.value_model.specs.Heap.{Heap, Structure, Members, Items, Entries, entry_at}

-- a step of a path: to the item at a place, or to the member at a key
pub data Step : Type 0 where
  ToPlace : ℕ → Step
  ToKey : Text → Step

-- what is seen of a value without taking a step
pub data Face : Type 0 where
  IsList : Face
  IsMapping : Face
  IsOther : Value → Face

module _ (h : Heap) where
  abbrev pub member_at : Step → Value → Option Value
  member_at step (Struct n) = option_and_then (λ s. in_members step s.members) (slice_get h.structures n)
    where
      in_members : Step → Members → Option Value
      in_members (ToPlace k) (Items vs) = slice_get vs k
      in_members (ToPlace k) (Entries es) = None
      in_members (ToKey key) (Items vs) = None
      in_members (ToKey key) (Entries es) = entry_at es key
  member_at step Nil = None
  member_at step (Truth b) = None
  member_at step (Int i) = None
  member_at step (Str t) = None
  member_at step (Error n) = None
  member_at step (Function n) = None
  member_at step (Future strand unit) = None

  -- the value at the end of the path, where the path leads somewhere
  abbrev pub value_at : List Step → Value → Option Value
  value_at [] v = Some v
  value_at (step ∷ path) v = option_and_then (value_at path) (member_at step v)

  abbrev pub face_of : Value → Face
  face_of (Struct n) = by (slice_get h.structures n)
    where
      of : Members → Face
      of (Items vs) = IsList
      of (Entries es) = IsMapping

      by : Option Structure → Face
      by (Some s) = of s.members
      by None = IsOther (Struct n)
  face_of Nil = IsOther Nil
  face_of (Truth b) = IsOther (Truth b)
  face_of (Int i) = IsOther (Int i)
  face_of (Str t) = IsOther (Str t)
  face_of (Error n) = IsOther (Error n)
  face_of (Function n) = IsOther (Function n)
  face_of (Future strand unit) = IsOther (Future strand unit)

  -- the same is seen at the end of each path
  abbrev pub AreEqual : Value → Value → Type 0
  AreEqual v w = (path : List Step) → option_map face_of (value_at path v) ≡ option_map face_of (value_at path w)
