use Rattle.std.proofs.Common.{◌≡◌, ◌≤◌, ℕ, get_or, length, take}
use Rattle.std.specs.List.{AllZip}
use Rattle.typed_tree.specs.declared.package.Initialiser.{Initialiser}
use Rattle.declared_reads.specs.Declared.{IsDeclaredInitialiser}
use Rattle.bare_packages.proofs.packages.initialisers.Given as goal

abbrev pub invariant-loop-i : goal.invariant-loop-i
invariant-loop-i l =
    ((length l.xs ≡ length l.fn.xs) × ((k : ℕ) (d : Initialiser) → l.i-index ≤ k → get_or l.xs k d ≡ get_or l.fn.xs k d)) × AllZip IsDeclaredInitialiser (take l.i-index l.fn.xs) (take l.i-index l.xs)
