-- Members that are stored.
use Rattle.std.proofs.Common.{◌≡◌, ℕ, List, [], ◌++◌, Some, map, sym, ap, ◌∙◌}
use Rattle.std.specs.Prelude.{option_map, slice_get, slice_set}
use Rattle.std.proofs.lemmas.List.{append-nil}
use Rattle.std.proofs.lemmas.Option.{same_Some, slice_get-map}
use Rattle.value_model.specs.Heap.{Structure as ModelStructure, Members}
use Rattle.op_model.specs.Stores.{with_members}
use Rattle.plain_run.specs.declared.held.Structure.{Structure}
use Rattle.plain_run.specs.Held.{structure_of}
use Rattle.plain_run.proofs.Settling.{set-there}

-- the structure that is there is the one that stands there
pub the-one : (xs : List Structure) (n : ℕ) (x : Structure) (s : ModelStructure) → slice_get xs n ≡ Some x → slice_get (map structure_of xs) n ≡ Some s → structure_of x ≡ s
the-one xs n x s there stands =
    same_Some (structure_of x) s (sym (slice_get-map structure_of xs n ∙ ap (option_map structure_of) there) ∙ stands)

pub structures-stored : (xs : List Structure) (n : ℕ) (x made : Structure) (s : ModelStructure) (m : Members) → slice_get xs n ≡ Some x → structure_of made ≡ with_members (structure_of x) m → slice_get (map structure_of xs) n ≡ Some s → map structure_of (slice_set xs n made) ≡ slice_set (map structure_of xs) n (with_members s m) ++ []
structures-stored xs n x made s m there is stands =
    set-there structure_of xs n made (with_members s m) (is ∙ ap (λ y. with_members y m) (the-one xs n x s there stands))
    ∙ sym (append-nil (slice_set (map structure_of xs) n (with_members s m)))
