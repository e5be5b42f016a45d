use Rattle.std.proofs.Common.{◌≡◌, take}
use Rattle.name_resolution.specs.Outlines.{outlines_from}
use Rattle.name_resolution.proofs.outlines.modules_outlines.Given as goal

abbrev pub invariant-loop-number : goal.invariant-loop-number
invariant-loop-number l = l.out.items ≡ outlines_from l.home 0 (take l.number l.modules)
