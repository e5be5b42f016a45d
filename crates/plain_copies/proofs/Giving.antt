-- A copy that is made, and what comes of it.
use Rattle.std.proofs.Common.{◌≡◌, ◌∙◌, ◌+◌, ℕ, Bool, true, false, List, [], ◌∷◌, Some, None, map, sym, ap}
use Rattle.std.specs.Prelude.{nat_le, if◌then◌else◌}
use Rattle.std.specs.List.{sum_by}
use Rattle.value_model.specs.declared.value.Value.{Value}
use Rattle.value_model.specs.declared.panics.PanicName.TheVariants.{CyclicValue}
use Rattle.value_model.specs.Heap.{cells}
use Rattle.value_model.specs.World.{World, Came, Gave, PassesCells}
use Rattle.op_model.specs.Copies.{copied_structures, copied_value, copy_of, freezes, has_cycle, reached_from, with_copies}
use Rattle.op_model.specs.Limits.{most_cells}
use Rattle.op_model.specs.Rows.{makes, next_structure, panics}
use Rattle.plain_run.specs.declared.held.Structure.{Structure}
use Rattle.plain_run.specs.Held.{structure_of}
use Rattle.plain_copies.specs.Copied.{IsCopied, copy_given, structures_copied}
use Rattle.plain_copies.proofs.Sums.{copies-cells, sum-held}

module _ (w : World) (v : Value) (mutable : Bool) (first : ℕ) (ns : List ℕ) (made : List Structure) (ef : first ≡ next_structure w) (en : ns ≡ reached_from w v) (em : map structure_of made ≡ structures_copied first ns mutable w.heap ns) where
  pub copy-same : (c : Value) → c ≡ copied_value first ns v → c ≡ copy_of w v
  copy-same c e = e ∙ (λ i. copied_value (ef i) (en i) v)

  pub copies-same : map structure_of made ≡ copied_structures (next_structure w) (reached_from w v) mutable w.heap
  copies-same = em ∙ (λ i. structures_copied (ef i) (en i) mutable w.heap (en i))

  pub world-same : (new : World) → new ≡ makes w (map structure_of made) → new ≡ with_copies mutable w v
  world-same new e = e ∙ ap (makes w) copies-same

  pub room-same : (b : Bool) → b ≡ nat_le (cells w.heap + sum_by (λ s. s.greatest + 1) made) most_cells → nat_le (cells (with_copies mutable w v).heap) most_cells ≡ b
  room-same b e =
      let all = copies-cells w.heap (copied_structures (next_structure w) (reached_from w v) mutable w.heap) in
      let sums : sum_by (λ s. s.greatest + 1) (copied_structures (next_structure w) (reached_from w v) mutable w.heap) ≡ sum_by (λ s. s.greatest + 1) made = ap (sum_by (λ s. s.greatest + 1)) (sym copies-same) ∙ sum-held made in
      let same : cells (with_copies mutable w v).heap ≡ cells w.heap + sum_by (λ s. s.greatest + 1) made = all ∙ ap (λ n. cells w.heap + n) sums in
      ap (λ n. nat_le n most_cells) same ∙ sym e

-- ---- what is given

module _ (mutable : Bool) (w : World) (v : Value) where
  abbrev given-if : Bool → Came
  given-if b = if b then Gave (copy_of w v ∷ []) (with_copies mutable w v) else PassesCells

  pub copy-gave : (new : World) (c : Value) → IsCopied mutable w v new (Some c) → Gave (c ∷ []) new ≡ copy_given mutable w v
  copy-gave new c (e, n, r) =
      (λ i. Gave (e i ∷ []) (n i)) ∙ sym (ap given-if (ap (λ x. nat_le (cells x.heap) most_cells) (sym n) ∙ r))

  pub copy-past : (new : World) → IsCopied mutable w v new None → PassesCells ≡ copy_given mutable w v
  copy-past new (n, r) = sym (ap given-if r)

module _ (w : World) (v : Value) where
  abbrev frozen-if : Bool → Came
  frozen-if b = if b then panics w CyclicValue else copy_given false w v

  pub frozen-cycle : (came : Came) → true ≡ has_cycle w.heap (reached_from w v) → came ≡ panics w CyclicValue → came ≡ freezes w v
  frozen-cycle came b e = e ∙ ap frozen-if b

  pub frozen-copy : (came : Came) → false ≡ has_cycle w.heap (reached_from w v) → came ≡ copy_given false w v → came ≡ freezes w v
  frozen-copy came b e = e ∙ ap frozen-if b

pub ruleset giving = (copy-gave, copy-past)
