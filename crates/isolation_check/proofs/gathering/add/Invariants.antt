use Rattle.std.proofs.Common.{◌≡◌, ◌++◌, take}
use Rattle.isolation_check.specs.inner.Views.{parts_of}
use Rattle.isolation_check.proofs.gathering.add.Given as goal

abbrev pub invariant-loop-part : goal.invariant-loop-part
invariant-loop-part l = parts_of l.parts.items ≡ parts_of l.fn.parts.items ++ parts_of (take l.part-index l.more)
