use Rattle.std.proofs.Common.{◌≡◌, drop}
use Rattle.stmt_checker.specs.Counting.{with_modules}
use Rattle.stmt_checker.proofs.counting.with_modules.Given as goal

abbrev pub invariant-loop-module : goal.invariant-loop-module
invariant-loop-module l = with_modules l.count (drop l.module-index l.modules) ≡ with_modules l.start l.modules
