use Rattle.std.proofs.Common.{◌≡◌, drop}
use Rattle.bal_tree.specs.Files.{file_in}
use Rattle.bal_tree.proofs.package.file_in.Given as goal

abbrev pub invariant-loop-module : goal.invariant-loop-module
invariant-loop-module l = file_in l.number l.modules ≡ file_in l.number (drop l.module-index l.modules)
