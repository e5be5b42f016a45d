use Rattle.std.proofs.Common.{◌≡◌, ◌≤◌, ℕ, get_or, length, take}
use Rattle.std.specs.List.{AllZip}
use Rattle.typed_tree.specs.declared.unit.TypedFunction.{TypedFunction}
use Rattle.declared_reads.specs.Declared.{IsDeclaredFunction}
use Rattle.bare_packages.proofs.packages.functions.Given as goal

abbrev pub invariant-loop-f : goal.invariant-loop-f
invariant-loop-f l =
    ((length l.fs ≡ length l.fn.fs) × ((k : ℕ) (d : TypedFunction) → l.f-index ≤ k → get_or l.fs k d ≡ get_or l.fn.fs k d)) × AllZip IsDeclaredFunction (take l.f-index l.fn.fs) (take l.f-index l.fs)
