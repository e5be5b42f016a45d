-- What stands in the heap at a number.
use Rattle.std.specs.Prelude.{ℕ, List, Option, Some, None, option_and_then, slice_get}
use Rattle.bal_base.specs.declared.text.Text.{Text}
use Rattle.value_model.specs.declared.value.Value.{Value}
use Rattle.value_model.specs.Heap.{Heap, Members, Items, Entries}

abbrev pub items_in : Members → Option (List Value)
items_in (Items vs) = Some vs
items_in (Entries es) = None

abbrev pub entries_in : Members → Option (List (Text × Value))
entries_in (Items vs) = None
entries_in (Entries es) = Some es

-- the items of the list with the number, and the entries of the mapping, where it is one
abbrev pub items_at : Heap → ℕ → Option (List Value)
items_at h n = option_and_then (λ s. items_in s.members) (slice_get h.structures n)

abbrev pub entries_at : Heap → ℕ → Option (List (Text × Value))
entries_at h n = option_and_then (λ s. entries_in s.members) (slice_get h.structures n)
