use Rattle.std.proofs.Common.{◌≡◌, ◌≤◌, ℕ, get_or, length, take}
use Rattle.std.specs.List.{AllZip}
use Rattle.typed_tree.specs.declared.unit.TypedWorker.{TypedWorker}
use Rattle.declared_reads.specs.Declared.{IsDeclaredWorker}
use Rattle.bare_packages.proofs.packages.workers.Given as goal

abbrev pub invariant-loop-w : goal.invariant-loop-w
invariant-loop-w l =
    ((length l.ws ≡ length l.fn.ws) × ((k : ℕ) (d : TypedWorker) → l.w-index ≤ k → get_or l.ws k d ≡ get_or l.fn.ws k d)) × AllZip IsDeclaredWorker (take l.w-index l.fn.ws) (take l.w-index l.ws)
