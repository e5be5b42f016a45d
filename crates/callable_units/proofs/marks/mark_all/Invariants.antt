use Rattle.std.proofs.Common.{◌≡◌, ℕ, take}
use Rattle.std.specs.Prelude.{Any}
use Rattle.callable_units.specs.inner.Marks.{Marks}
use Rattle.callable_units.proofs.marks.mark_all.Given as goal

abbrev pub invariant-loop-k : goal.invariant-loop-k
invariant-loop-k l = Marks (λ n. Any (λ (m : ℕ). m ≡ n) (take l.k l.numbers)) l.fn.marks.items l.marks.items
