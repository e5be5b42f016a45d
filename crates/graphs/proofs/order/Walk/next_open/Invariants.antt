use Rattle.std.proofs.Common.{◌≡◌, ℕ, List, All, Contains, Some, slice_get, take}
use Rattle.graphs.specs.declared.order.Mark.TheVariants.{Done}
use Rattle.graphs.proofs.order.Walk.next_open.Given as goal

-- the parts before this place are done, where those before the first place are
abbrev pub invariant-loop-place : goal.invariant-loop-place
invariant-loop-place l =
    (order : List ℕ) → ((i : ℕ) → slice_get l.self.marks.items i ≡ Some Done → Contains order i) → All (Contains order) (take l.from l.parts) → All (Contains order) (take l.place l.parts)
