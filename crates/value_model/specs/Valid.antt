-- Which values are valid: with ints that are in range and texts of characters. Without this a value would stand for no valid
-- shape, and so belong to every type.
use Rattle.std.specs.Prelude.{List, All, ⊤}
use Rattle.bal_base.specs.declared.text.Text.{Text}
use Rattle.bal_base.specs.Valid.{IsInt, IsText}
use Rattle.value_model.specs.declared.value.Value.{Value}
use Rattle.value_model.specs.declared.value.Value.TheVariants.{Nil, Bool as Truth, Int, Str, Struct, Error, Function, Future}
use Rattle.value_model.specs.Heap.{Heap, Members, Items, Entries}

-- what a value names stands in the heap, and is valid there
abbrev pub IsValidValue : Value → Type 0
IsValidValue Nil = ⊤
IsValidValue (Truth b) = ⊤
IsValidValue (Int i) = IsInt i
IsValidValue (Str t) = IsText t
IsValidValue (Struct n) = ⊤
IsValidValue (Error n) = ⊤
IsValidValue (Function n) = ⊤
IsValidValue (Future strand unit) = ⊤

-- the keys of a mapping are texts, too
abbrev pub AreValidMembers : Members → Type 0
AreValidMembers (Items vs) = All IsValidValue vs
AreValidMembers (Entries es) = All (λ e. IsText e.0 × IsValidValue e.1) es

-- and so is all that a heap has
pub record IsValidHeap (h : Heap) : Type 0 where
  pub members : All (λ s. AreValidMembers s.members) h.structures
  pub messages : All (λ e. IsText e.message) h.errors
  pub captured : All (λ f. All IsValidValue f.captured) h.functions
