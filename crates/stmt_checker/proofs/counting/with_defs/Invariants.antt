use Rattle.std.proofs.Common.{◌≡◌, drop}
use Rattle.stmt_checker.specs.Counting.{with_defs}
use Rattle.stmt_checker.proofs.counting.with_defs.Given as goal

abbrev pub invariant-loop-def : goal.invariant-loop-def
invariant-loop-def l = with_defs l.count (drop l.def-index l.defs) ≡ with_defs l.start l.defs
