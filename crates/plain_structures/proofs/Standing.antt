-- What stands in the heap, as it is held.
use Rattle.std.proofs.Common.{◌≡◌, ◌∙◌, ℕ, ℤ, pos, List, Option, Some, None, map, ap}
use Rattle.std.specs.Prelude.{option_and_then, option_map, slice_get}
use Rattle.std.proofs.lemmas.Option.{slice_get-map}
use Rattle.value_model.specs.Heap.{Structure as ModelStructure}
use Rattle.op_model.specs.StructureRows.{at_place}
use Rattle.plain_run.specs.declared.held.Heap.{Heap}
use Rattle.plain_run.specs.declared.held.Structure.{Structure}
use Rattle.plain_run.specs.Held.{heap_of, members_of, structure_of}
use Rattle.plain_structures.specs.Lookups.{entries_at, entries_in, items_at, items_in}

module _ (h : Heap) (n : ℕ) where
  at-held : {A : Type 0} (f : ModelStructure → Option A) (o : Option Structure) → slice_get h.structures n ≡ o → option_and_then f (slice_get (map structure_of h.structures) n) ≡ option_and_then f (option_map structure_of o)
  at-held f o e = ap (option_and_then f) (slice_get-map structure_of h.structures n ∙ ap (option_map structure_of) e)

  pub items-there : (s : Structure) → slice_get h.structures n ≡ Some s → items_at (heap_of h) n ≡ items_in (members_of s.members)
  items-there s e = at-held (λ x. items_in x.members) (Some s) e

  pub items-past : slice_get h.structures n ≡ None → items_at (heap_of h) n ≡ None
  items-past e = at-held (λ x. items_in x.members) None e

  pub entries-there : (s : Structure) → slice_get h.structures n ≡ Some s → entries_at (heap_of h) n ≡ entries_in (members_of s.members)
  entries-there s e = at-held (λ x. entries_in x.members) (Some s) e

  pub entries-past : slice_get h.structures n ≡ None → entries_at (heap_of h) n ≡ None
  entries-past e = at-held (λ x. entries_in x.members) None e

pub at-positive : {A : Type 0} (xs : List A) (i : ℤ) (k : ℕ) → i ≡ pos k → at_place xs i ≡ slice_get xs k
at-positive xs i k e = ap (at_place xs) e

pub ruleset standing = (items-there, items-past, entries-there, entries-past, at-positive)
