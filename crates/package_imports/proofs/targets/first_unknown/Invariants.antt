use Rattle.std.proofs.Common.{◌≡◌, drop}
use Rattle.package_imports.specs.Imports.{first_unknown}
use Rattle.package_imports.proofs.targets.first_unknown.Given as goal

abbrev pub invariant-loop-import : goal.invariant-loop-import
invariant-loop-import l = first_unknown l.home l.imports ≡ first_unknown l.home (drop l.import-index l.imports)
