use Rattle.std.proofs.Common.{◌≡◌}
use Rattle.package_making.specs.Making.{numbered}
use Rattle.package_making.specs.inner.Ranked.{ranked}
use Rattle.package_making.proofs.making.with_ranks.Given as goal

abbrev pub invariant-loop-file : goal.invariant-loop-file
invariant-loop-file l = l.placed.items ≡ ranked l.order (numbered l.numbers 0 l.yielded)
