use Rattle.std.proofs.Common.{take}
use Rattle.plain_tests.specs.Shapes.{AreKeysOf}
use Rattle.plain_tests.proofs.keys.keys_of.Given as goal

abbrev pub invariant-loop-e : goal.invariant-loop-e
invariant-loop-e l = AreKeysOf (take l.e-index l.entries) l.keys.items
