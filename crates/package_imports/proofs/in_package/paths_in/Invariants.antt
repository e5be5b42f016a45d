use Rattle.std.proofs.Common.{◌≡◌, take}
use Rattle.package_imports.specs.InPackage.{paths_from}
use Rattle.package_imports.proofs.in_package.paths_in.Given as goal

abbrev pub invariant-loop-number : goal.invariant-loop-number
invariant-loop-number l = l.paths.items ≡ paths_from l.«package» 0 (take l.number l.«package».modules)
