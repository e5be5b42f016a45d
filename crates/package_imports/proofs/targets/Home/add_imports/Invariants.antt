use Rattle.std.proofs.Common.{◌≡◌, ◌++◌, take}
use Rattle.package_imports.specs.Imports.{imported}
use Rattle.package_imports.proofs.targets.Home.add_imports.Given as goal

abbrev pub invariant-loop-import : goal.invariant-loop-import
invariant-loop-import l = l.out.items ≡ l.initial.out.items ++ imported l.self (take l.import-index l.imports)
