-- Parts of copies, and what comes of one.
use Rattle.std.specs.Prelude.{◌^◌, ◌==◌, ◌≡◌, ◌≤◌, ℕ, Bool, true, false, List, Option, Some, None, filter_map, nat_le, option_map, slice_get}
use Rattle.std.specs.List.{list_any}
use Rattle.bal_base.specs.declared.text.Text.{Text}
use Rattle.value_model.specs.declared.value.Value.{Value}
use Rattle.value_model.specs.Heap.{Heap, Structure, cells}
use Rattle.value_model.specs.World.{World, Came}
use Rattle.op_model.specs.Copies.{copied_structure, copied_value, copy_of, mutable_members, reached, with_copies}
use Rattle.op_model.specs.Limits.{most_cells}
use Rattle.op_model.specs.Rows.{gives, within}

abbrev pub second : Text × Value → Value
second e = e.1

abbrev pub is_number : ℕ → ℕ → Bool
is_number n m = m == n

-- the structure is reached from its own members
abbrev pub reaches_itself : Heap → ℕ → Bool
reaches_itself h n = list_any (λ m. m == n) (reached h (mutable_members h n))

abbrev pub copied_entry : ℕ → List ℕ → Text × Value → Text × Value
copied_entry first ns e = (e.0, copied_value first ns e.1)

-- the copies of some of those that are copied, which are mutable or are not
abbrev pub structures_copied : ℕ → List ℕ → Bool → Heap → List ℕ → List Structure
structures_copied first ns mutable h left =
    filter_map (λ n. option_map (copied_structure first ns mutable) (slice_get h.structures n)) left

-- the sum, where a `u64` has it
abbrev pub IsSum : ℕ → Option ℕ → Type 0
IsSum n (Some m) = m ≡ n
IsSum n None = 2 ^ 64 ≤ n

-- the copy that was made, whose structures are mutable or are not; or none where it would have too many cells
abbrev pub IsCopied : Bool → World → Value → World → Option Value → Type 0
IsCopied mutable old v new (Some c) =
    (c ≡ copy_of old v) × (new ≡ with_copies mutable old v) × (nat_le (cells new.heap) most_cells ≡ true)
IsCopied mutable old v new None = (new ≡ old) × (nat_le (cells (with_copies mutable old v).heap) most_cells ≡ false)

-- the copy is given, unless it has too many cells
abbrev pub copy_given : Bool → World → Value → Came
copy_given mutable w v = within (gives (with_copies mutable w v) (copy_of w v))
