use Rattle.std.proofs.Common.{take}
use Rattle.bal_base.specs.Valid.{KeysRise}
use Rattle.bal_base.proofs.shape.valid.rise.Given as goal

abbrev pub invariant-loop-i : goal.invariant-loop-i
invariant-loop-i l = KeysRise (take l.i l.fields)
