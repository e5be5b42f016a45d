use Rattle.std.proofs.Common.{◌≡◌, take}
use Rattle.package_making.specs.Making.{numbered}
use Rattle.module_loader.specs.Packages.{imports_of}
use Rattle.module_loader.proofs.linking.imports_of.Given as goal

abbrev pub invariant-loop-place : goal.invariant-loop-place
invariant-loop-place l = l.all.items ≡ imports_of l.home (numbered l.numbers 0 (take l.place l.read)) l.number
