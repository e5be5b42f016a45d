use Rattle.std.proofs.Common.{◌≡◌, drop}
use Rattle.stmt_checker.specs.Counting.{with_files}
use Rattle.stmt_checker.proofs.counting.with_files.Given as goal

abbrev pub invariant-loop-file : goal.invariant-loop-file
invariant-loop-file l = with_files l.count (drop l.file-index l.files) ≡ with_files l.start l.files
