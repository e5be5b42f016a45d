use Rattle.std.proofs.Common.{◌≡◌, ◌≤◌, ℕ, get_or, length, take}
use Rattle.std.specs.List.{AllZip}
use Rattle.typed_tree.specs.declared.package.Initial.{Initial}
use Rattle.declared_reads.specs.Declared.{IsDeclaredInitial}
use Rattle.bare_packages.proofs.packages.initials.Given as goal

abbrev pub invariant-loop-i : goal.invariant-loop-i
invariant-loop-i l =
    ((length l.xs ≡ length l.fn.xs) × ((k : ℕ) (d : Initial) → l.i-index ≤ k → get_or l.xs k d ≡ get_or l.fn.xs k d)) × AllZip IsDeclaredInitial (take l.i-index l.fn.xs) (take l.i-index l.xs)
