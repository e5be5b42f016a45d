use Rattle.std.proofs.Common.{◌≡◌, length, All}
use Rattle.descriptors.specs.Described.{IsCopy}
use Rattle.descriptors.proofs.together.copies.Given as goal

abbrev pub invariant-loop-place : goal.invariant-loop-place
invariant-loop-place l = (length l.copies.items ≡ l._place) × All (IsCopy l.t) l.copies.items
